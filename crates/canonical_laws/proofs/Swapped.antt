-- Two neighbouring gates, of which the later does not name the earlier, change places.
use Rattle.std.proofs.Common.{◌≡◌, ℕ, ◌+◌, ◌<◌, ◌≤◌, cond, eqb, ◌⊎◌, List, [], ◌∷◌, ◌++◌, length, get_or, replicate, ◌∙◌, inl, inr, arith}
use lib.ListN.{length-replicate}
use Rattle.std.proofs.lemmas.List.{length_push}
use Rattle.std.proofs.lemmas.Bool.{cases_lt}
use Rattle.std.proofs.lemmas.Bool.Decides.{nat_tests}
use Rattle.mig.specs.declared.network.Gate.{Gate}
use Rattle.mig.specs.Networks.{Kind, gate_value, walk, uses_in, GateBelow, Ordered, bits, levels}
use Rattle.mig.specs.Questions.{row_start}
use Rattle.mig_laws.proofs.RowBits.{length-input_bits}
use Rattle.mig_laws.proofs.Steps.{value_front}
use Rattle.mig_laws.proofs.Walks.{get_or-snoc, walk-append, length-walk, uses_in-append, ordered_both}
use Rattle.canonical_laws.proofs.Uses.{unused_behind}
use Rattle.canonical_laws.proofs.Fronts.{Origin, Exchanges}

-- the node j, where the nodes k and k + 1 change places
abbrev pub swap : ℕ → ℕ → ℕ
swap k j = cond (eqb j k) (k + 1) (cond (eqb j (k + 1)) k j)

-- gates with two more behind them
abbrev pub with_two : List Gate → Gate → Gate → List Gate
with_two xs g h = (xs ++ g ∷ []) ++ h ∷ []

pub length_two : (xs : List Gate) (g h : Gate) → length (with_two xs g h) ≡ length xs + 2
length_two xs g h = omega (arith, length_push xs g, length_push (xs ++ g ∷ []) h)

uses_two : (j : ℕ) (xs : List Gate) (g h : Gate) → uses_in j (with_two xs g h) ≡ uses_in j xs + uses_in j (g ∷ []) + uses_in j (h ∷ [])
uses_two j xs g h = omega (arith, uses_in-append j xs (g ∷ []), uses_in-append j (xs ++ g ∷ []) (h ∷ []))

-- one more node leaves the value of a gate that does not name it
gate_before : {V : Type 0} (kind : Kind V) (us : List V) (v : V) (g : Gate) → GateBelow (length us) g → gate_value kind (us ++ v ∷ []) g ≡ gate_value kind us g
gate_before kind us v g l =
    let x = value_front kind us (v ∷ []) g.first l.0 in
    let y = value_front kind us (v ∷ []) g.second l.1 in
    let z = value_front kind us (v ∷ []) g.third l.2 in
    cc

-- the values of the nodes, where the last gate names only nodes before the other
walk_two : {V : Type 0} (kind : Kind V) (vs : List V) (xs : List Gate) (g h : Gate) (k : ℕ) → length vs + length xs ≡ k → GateBelow k h
    → (j : ℕ) → get_or (walk kind vs (with_two xs g h)) j kind.constant
    ≡ cond (eqb j (k + 1)) (gate_value kind (walk kind vs xs) h) (cond (eqb j k) (gate_value kind (walk kind vs xs) g) (get_or (walk kind vs xs) j kind.constant))
unfolding walk
walk_two kind vs xs g h k l b j =
    let us = walk kind vs xs in
    let v = gate_value kind us g in
    let e : length us ≡ k = length-walk kind vs xs ∙ l in
    rw (walk-append kind vs (xs ++ g ∷ []) (h ∷ []), walk-append kind vs xs (g ∷ []), gate_before kind us v h (rw e b), get_or-snoc (us ++ v ∷ []) (gate_value kind us h) kind.constant j, length_push us v, get_or-snoc us v kind.constant j, e)

swapped_value : {V : Type 0} (kind : Kind V) (vs : List V) (xs : List Gate) (g h : Gate) (k : ℕ) → length vs + length xs ≡ k → GateBelow k g → GateBelow k h
    → (j : ℕ) → get_or (walk kind vs (with_two xs h g)) (swap k j) kind.constant ≡ get_or (walk kind vs (with_two xs g h)) j kind.constant
swapped_value {V} kind vs xs g h k l a b j =
    rw (walk_two kind vs xs h g k l a (swap k j), walk_two kind vs xs g h k l b j)
    (at (gate_value kind (walk kind vs xs) g) (gate_value kind (walk kind vs xs) h) (λ i. get_or (walk kind vs xs) i kind.constant))
  where
    at : (u v : V) (f : ℕ → V) → cond (eqb (swap k j) (k + 1)) u (cond (eqb (swap k j) k) v (f (swap k j))) ≡ cond (eqb j (k + 1)) v (cond (eqb j k) u (f j))
    at u v f = grind (arith, nat_tests)

-- where a gate comes from, once two gates have changed places
swapped_origin : (n k : ℕ) (xs : List Gate) (g h : Gate) → n + 1 + length xs ≡ k → Ordered (n + 1) xs → GateBelow k g → GateBelow k h
    → (j : ℕ) → n < j → Origin n (swap k) (with_two xs g h) (with_two xs h g) j (swap k j)
unfolding Ordered uses_in
swapped_origin n k xs g h l o a b j c =
    let p = length_two xs g h in
    let q = length_two xs h g in
    record {
      gate = grind (arith, nat_tests);
      within = λ m b. grind (arith, nat_tests);
      only = λ x e. grind (arith, nat_tests);
      uses = at (cases_lt j k);
    }
  where
    at : (j < k) ⊎ (k ≤ j) → uses_in j (with_two xs h g) ≤ uses_in (swap k j) (with_two xs g h)
    at (inl m) = let e : swap k j ≡ j = grind (arith, nat_tests) in rw e (omega (arith, uses_two j xs h g, uses_two j xs g h))
    at (inr m) =
        omega (arith, uses_two j xs h g, unused_behind (n + 1) j xs o (omega arith), unused_behind k j (g ∷ []) (a, tt) (omega arith), unused_behind k j (h ∷ []) (b, tt) (omega arith))

-- two neighbouring gates may change places, if neither names a node from the first of them on
pub swapped_exchanges : (n k : ℕ) (xs : List Gate) (g h : Gate) → n + 1 + length xs ≡ k → Ordered (n + 1) xs → GateBelow k g → GateBelow k h
    → Exchanges n (λ j. Unit {0}) (swap k) (with_two xs g h) (with_two xs h g)
unfolding Ordered
swapped_exchanges n k xs g h l o a b =
    let p = length_two xs g h in
    let q = length_two xs h g in
    record {
      ordered =
          ordered_both (n + 1) (k + 1) (xs ++ h ∷ []) (g ∷ []) (omega (arith, length_push xs h)) (ordered_both (n + 1) k xs (h ∷ []) l o (b, tt))
          ((omega arith, omega arith, omega arith), tt);
      shifts = record { below = λ j m. grind (arith, nat_tests); behind = λ j m. grind (arith, nat_tests) };
      bits = λ t j _. swapped_value bits (row_start n t) xs g h k (let e = length-input_bits n t in omega arith) a b j;
      levels = λ j _.
          let e = swapped_value levels (replicate (n + 1) 0) xs g h k (rw (length-replicate {A = ℕ} (n + 1) 0) l) a b j in
          omega arith;
      origin = λ j c. (swap k j, swapped_origin n k xs g h l o a b j c);
    }
