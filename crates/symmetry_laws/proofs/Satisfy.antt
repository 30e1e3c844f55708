-- What the variables say of a canonical network with its neighbours and its inputs in order satisfies the symmetry clauses.
use Rattle.std.proofs.Common.{◌≡◌, ℕ, zero, suc, ◌+◌, ◌-◌, ◌*◌, ◌^◌, T, subst, ◌<◌, ◌≤◌, Bool, true, false, cond, not, ◌||◌, eqb, ◌⊎◌, List, [], ◌∷◌, length, get_or, refl, sym, ap, ◌∙◌, inl, inr, arith}
use native.Mathlib.Nat.{pow-succ', pow-zero}
use Rattle.std.proofs.lemmas.Nat.{pow_below, pow_pos}
use Rattle.std.proofs.lemmas.Bool.{eq-eqb, ne_eqb, eqb-true, eqb-false, cases_lt, cases_eq}
use Rattle.mig.specs.declared.network.Gate.{Gate}
use Rattle.mig.specs.Networks.{Net, size, node, complemented, names, majority, empty_gate, value_at, walk, bits, Formed}
use Rattle.mig.specs.Questions.{row_start}
use Rattle.mig_laws.proofs.RowBits.{get_or-input_bits}
use Rattle.mig_laws.proofs.Walks.{walk_keeps}
use Rattle.canonical_laws.proofs.Gates.{gate_uses}
use Rattle.canonical_laws.specs.Canonical.{Rising, Buffer, CanonicalGate, AllCanonical, Canonical}
use Rattle.canonical_laws.specs.Neighbours.{OrderedNeighbours}
use Rattle.cnf.specs.Variables.{Var, S, N, O, pos, each}
use Rattle.cnf.specs.Meaning.{Assignment, some_holds, Satisfies, gate_of_node, count, said_without_counts, meaning}
use Rattle.cnf_laws.proofs.Satisfied.{satisfies_both, satisfies_each, satisfies_one}
use Rattle.cnf_laws.proofs.Literals.{one_met, not_both_met}
use Rattle.cnf_laws.proofs.Equations.{length-row_start, gate_equation, gate_below}
use Rattle.cnf_laws.proofs.Uses.{count-append, count_uses}
use Rattle.symmetry_laws.specs.Symmetry.{no_fall, naming, named_up_to, in_order, complements_once, fan_ins_rise, buffers_copy_gates, output_last, gates_named, first_row_zero, neighbours_ordered, inputs_ordered, symmetry_clauses}
use Rattle.symmetry_laws.specs.Inputs.{symmetric_in}
use Rattle.symmetry_laws.proofs.Inputs.{nodes_key, InputsInOrder}

-- the gates of a canonical network, one by one
canonical_at : (b : ℕ) (gs : List Gate) (p : ℕ) → AllCanonical b gs → p < length gs → CanonicalGate b (get_or gs p empty_gate)
unfolding AllCanonical
canonical_at b [] p h l = absurd (omega arith)
canonical_at b (g ∷ gs) zero h l = h.0
canonical_at b (g ∷ gs) (suc p) h l = canonical_at b gs p h.1 (omega arith)

-- the first two literals do not hold, or the rest does
not_both_or : (x y z : Bool) → (x ≡ true → y ≡ true → z ≡ true) → (not x || (not y || z)) ≡ true
not_both_or x y z h = grind arith

-- the literal does not hold
not_met : (x : Bool) → x ≡ false → (not x || false) ≡ true
not_met x h = grind arith

-- not all three hold
not_all_met : (x y z : Bool) → (x ≡ true → y ≡ true → z ≡ true → ⊥) → (not x || (not y || (not z || false))) ≡ true
not_all_met x y z h = grind arith

-- where at most one of three holds, no two do
no_two : (x y z : Bool) → cond x 1 0 + cond y 1 0 + cond z 1 0 ≤ 1
    → (x ≡ true → y ≡ true → ⊥) × (x ≡ true → z ≡ true → ⊥) × (y ≡ true → z ≡ true → ⊥)
no_two x y z l = (λ e f. grind arith, λ e f. grind arith, λ e f. grind arith)

-- one of three holds, or of those behind them
one_of_three : (x y z w : Bool) (k : ℕ) → (1 ≤ k → w ≡ true) → 1 ≤ cond x 1 0 + (cond y 1 0 + (cond z 1 0 + k)) → (x || (y || (z || w))) ≡ true
one_of_three true y z w k h l = refl
one_of_three false true z w k h l = refl
one_of_three false false true w k h l = refl
one_of_three false false false w k h l = h (omega arith)

-- the majority of three bits of which at most one is 1
majority_of_one : (x y z : Bool) → cond x 1 0 + cond y 1 0 + cond z 1 0 ≤ 1 → majority x y z ≡ false
majority_of_one true true z l = absurd (omega arith)
majority_of_one true false true l = absurd (omega arith)
majority_of_one true false false l = refl
majority_of_one false true true l = absurd (omega arith)
majority_of_one false true false l = refl
majority_of_one false false z l = refl

-- the variables that say that a gate names j, for m gates from the node a on
abbrev naming_variables : ℕ → ℕ → ℕ → List Var
naming_variables j a m = each a m (λ i. S i 1 j ∷ S i 2 j ∷ S i 3 j ∷ [])

-- where one of them holds, so does the clause of all of them
some_names : (s : Assignment) (j a m : ℕ) → 1 ≤ count s (naming_variables j a m) → some_holds s (each a m (naming j)) ≡ true
unfolding each count
some_names s j a zero h = absurd (omega arith)
some_names s j a (suc m) h =
    one_of_three (s (S a 1 j)) (s (S a 2 j)) (s (S a 3 j)) (some_holds s (each (suc a) m (naming j))) (count s (naming_variables j (suc a) m))
    (some_names s j (suc a) m) h

-- a literal does not hold, or the rest does
holds_or : (x y : Bool) → (x ≡ true → y ≡ true) → (not x || y) ≡ true
holds_or x y h = grind arith

-- one of three holds
one_named : (x y z : Bool) → 1 ≤ cond x 1 0 + cond y 1 0 + cond z 1 0 → (x || (y || z)) ≡ true
one_named true y z l = refl
one_named false true z l = refl
one_named false false true l = refl
one_named false false false l = absurd (omega arith)

-- where one of m gates from the node a on names j, the clause of all that name it holds
some_gate_names : (s : Assignment) (j a m k : ℕ) → a ≤ k → k < a + m → (s (S k 1 j) || (s (S k 2 j) || s (S k 3 j))) ≡ true
    → some_holds s (each a m (naming j)) ≡ true
unfolding each
some_gate_names s j a zero k l u h = absurd (omega arith)
some_gate_names s j a (suc m) k l u h =
    elim (cases_eq a k) [
      | inl e ↦
          three_or (s (S a 1 j)) (s (S a 2 j)) (s (S a 3 j)) (some_holds s (each (suc a) m (naming j)))
          (inl (subst (λ (x : ℕ). (s (S x 1 j) || (s (S x 2 j) || s (S x 3 j))) ≡ true) (sym e) h))
      | inr d ↦
          three_or (s (S a 1 j)) (s (S a 2 j)) (s (S a 3 j)) (some_holds s (each (suc a) m (naming j)))
          (inr (some_gate_names s j (suc a) m k (omega arith) (omega arith) h))
    ]
  where
    three_or : (x y z w : Bool) → ((x || (y || z)) ≡ true) ⊎ (w ≡ true) → (x || (y || (z || w))) ≡ true
    three_or true y z w o = refl
    three_or false true z w o = refl
    three_or false false true w o = refl
    three_or false false false w (inl e) = absurd (subst T (sym e) tt)
    three_or false false false w (inr e) = e

-- a power of two is at most half of a greater one
half_power : (i j : ℕ) → i < j → 2 * 2 ^ i ≤ 2 ^ j
half_power i j l =
    elim (cases_eq (suc i) j) [
      | inl e ↦ let d : 2 ^ suc i ≡ 2 ^ j = ap (λ (x : ℕ). 2 ^ x) e in omega (arith, pow-succ' 2 i)
      | inr d ↦ omega (arith, pow-succ' 2 i, pow_below (suc i) j (omega arith))
    ]

-- of a gate and a canonical one, the one with the later third fan-in has the greater key
third_decides : (b : ℕ) (g h : Gate) → 1 ≤ b → CanonicalGate b h → node h.third < node g.third → nodes_key h < nodes_key g
third_decides b g h some c l = at c.shape
  where
    at : Rising h ⊎ Buffer b h → nodes_key h < nodes_key g
    at (inl x) =
        omega (arith, half_power (node h.first) (node h.second) x.0, half_power (node h.second) (node h.third) x.1, half_power (node h.third) (node g.third) l, pow_pos (node g.first), pow_pos (node h.first))
    at (inr x) =
        let e : 2 ^ node h.first ≡ 1 = rw x.first refl in
        let d : 2 ^ node h.second ≡ 1 = rw x.second refl in
        omega (arith, e, d, half_power 0 (node h.third) (omega (arith, x.source)), half_power (node h.third) (node g.third) l, pow_pos (node g.first), pow-zero 2)

-- in row 0 each input is 0
first_row_inputs : (n j : ℕ) → j ≤ n → get_or (row_start n 0) j false ≡ false
first_row_inputs n zero l = refl
first_row_inputs n (suc j) l = get_or-input_bits n 0 j (omega arith) ∙ ne_eqb _ 1 (omega arith)

module _ (n r : ℕ) (net : Net) (sized : size net ≡ r) (formed : Formed n net) (canonical : Canonical n net) where
  abbrev said : Assignment
  said = meaning n r net

  abbrev gate : ℕ → Gate
  gate = gate_of_node n net

  gate_canonical : (i : ℕ) → n < i → i < suc n + r → CanonicalGate (n + 1) (gate i)
  gate_canonical i a b = canonical_at (n + 1) net.gates (i - suc n) canonical.gates (omega arith)

  complements_met : Satisfies said (complements_once n r)
  unfolding meaning said_without_counts Satisfies
  complements_met =
      satisfies_each said (suc n) r _ (λ i a b.
      let w = no_two (said (N i 1)) (said (N i 2)) (said (N i 3)) (gate_canonical i a b).once in
      (not_both_met (said (N i 1)) (said (N i 2)) w.0, (not_both_met (said (N i 1)) (said (N i 3)) w.1, (not_both_met (said (N i 2)) (said (N i 3)) w.2, tt))))

  no_fall_met : (i j k : ℕ) → k ≤ j → Rising (gate i) ⊎ Buffer (n + 1) (gate i) → Satisfies said (no_fall i j k)
  unfolding meaning said_without_counts Satisfies
  no_fall_met i j k l (inl g) = (
    not_both_or (said (S i 1 j)) (said (S i 2 k)) _ (λ e f. absurd (omega (arith, eqb-true _ j e, eqb-true _ k f, g.0))),
    (not_both_met (said (S i 2 j)) (said (S i 3 k)) (λ e f. omega (arith, eqb-true _ j e, eqb-true _ k f, g.1)), tt),
  )
  no_fall_met i j k l (inr g) = (
    not_both_or (said (S i 1 j)) (said (S i 2 k)) (some_holds said (cond (eqb j 0) (pos (N i 2) ∷ []) []))
        (λ e f. rw (eq-eqb j 0 (omega (arith, eqb-true _ j e, g.first)), g.second) refl),
    (not_both_met (said (S i 2 j)) (said (S i 3 k)) (λ e f. omega (arith, eqb-true _ j e, eqb-true _ k f, g.second, g.source)), tt),
  )

  rise_met : Satisfies said (fan_ins_rise n r)
  rise_met =
      satisfies_each said (suc n) r _ (λ i a b. satisfies_each said 0 i _ (λ j v w. satisfies_each said 0 (suc j) _ (λ k y z.
      no_fall_met i j k (omega arith) (gate_canonical i a b).shape)))

  copies_gate : (i j : ℕ) → j ≤ n → Rising (gate i) ⊎ Buffer (n + 1) (gate i)
      → eqb (node (gate i).first) 0 ≡ true → eqb (node (gate i).second) 0 ≡ true → eqb (node (gate i).third) j ≡ true → ⊥
  copies_gate i j l (inl g) e f h = omega (arith, eqb-true _ 0 f, g.0)
  copies_gate i j l (inr g) e f h = omega (arith, eqb-true _ j h, g.source)

  buffers_met : Satisfies said (buffers_copy_gates n r)
  unfolding meaning said_without_counts Satisfies
  buffers_met =
      satisfies_each said (suc n) r _ (λ i a b. satisfies_each said 0 (suc n) _ (λ j v w.
      (not_all_met (said (S i 1 0)) (said (S i 2 0)) (said (S i 3 j)) (copies_gate i j (omega arith) (gate_canonical i a b).shape), tt)))

  last_node : 1 ≤ r → node net.output ≡ n + r
  last_node some =
      elim canonical.last [
        | inl e ↦ absurd (omega arith)
        | inr e ↦ omega arith
      ]

  output_met : Satisfies said (output_last n r)
  unfolding meaning said_without_counts Satisfies
  output_met = at (eqb r 0) refl
    where
      at : (b : Bool) → eqb r 0 ≡ b → Satisfies said (cond b [] ((pos (O (n + r)) ∷ []) ∷ []))
      at true e = tt
      at false e = (one_met (said (O (n + r))) (eq-eqb _ (n + r) (last_node (omega (arith, eqb-false r 0 e)))), tt)

  -- gate j, which is not the last, is named by a gate
  named : (j : ℕ) → n < j → j < n + r → 1 ≤ count said (naming_variables j (suc j) (n + r - j))
  unfolding meaning said_without_counts count
  named j a b =
      let l = last_node (omega arith) in
      let none : names j net.output ≡ 0 = rw (ne_eqb (node net.output) j (omega arith)) in
      omega (
        arith,
        count_uses said n r j net sized formed a (omega arith) (λ i u v w. record { first = refl; second = refl; third = refl }) refl,
        count-append said (naming_variables j (suc j) (n + r - j)) (O j ∷ []),
        canonical.used j a (omega arith),
        none,
      )

  named_met : Satisfies said (gates_named n r)
  named_met =
      satisfies_each said (suc n) (r - 1) _ (λ j a b. satisfies_one said _ (some_names said j (suc j) (n + r - j) (named j a (omega arith))))

  abbrev first_row : List Bool
  first_row = walk bits (row_start n 0) net.gates

  -- in row 0 a code has the value 1 only if it is complemented
  first_row_code : (c : ℕ) → get_or first_row (node c) false ≡ false → value_at bits first_row c ≡ complemented c
  first_row_code c e = rw e (at (complemented c))
    where
      at : (b : Bool) → cond b (not false) false ≡ b
      at true = refl
      at false = refl

  first_row_gate : (i : ℕ) → n < i → i < suc n + r → ((j : ℕ) → j < i → get_or first_row j false ≡ false) → get_or first_row i false ≡ false
  first_row_gate i a b ih =
      let w = gate_below n net i formed a (omega arith) in
      gate_equation bits n net (row_start n 0) i false (length-row_start n 0) formed a (omega arith)
      ∙ rw (first_row_code (gate i).first (ih _ w.0), first_row_code (gate i).second (ih _ w.1), first_row_code (gate i).third (ih _ w.2))
      (majority_of_one (complemented (gate i).first) (complemented (gate i).second) (complemented (gate i).third) (gate_canonical i a b).once)

  -- each node below m is 0 in row 0
  first_row_below : (m j : ℕ) → j < m → j < suc n + r → get_or first_row j false ≡ false
  first_row_below zero j l u = absurd (omega arith)
  first_row_below (suc m) j l u =
      elim (cases_lt n j) [
        | inl b ↦ first_row_gate j b u (λ k v. first_row_below m k (omega arith) (omega arith))
        | inr b ↦ walk_keeps bits (row_start n 0) net.gates false j (omega (arith, length-row_start n 0)) ∙ first_row_inputs n j b
      ]

  first_row_met : Satisfies said (first_row_zero n r)
  unfolding meaning said_without_counts
  first_row_met =
      satisfies_each said (suc n) r _ (λ i a b. satisfies_one said _ (not_met _ (first_row_below (suc i) i (omega arith) b)))

  module _ (ordered : OrderedNeighbours nodes_key n net) where
    in_order_thirds : (i j k : ℕ) → n < i → i < n + r → j < i → k < j → eqb (node (gate i).third) j ≡ true → eqb (node (gate (suc i)).third) k ≡ true → ⊥
    in_order_thirds i j k a b l m e f =
        let q : suc i - suc n ≡ i - suc n + 1 = omega arith in
        let p = eqb-true _ j e in
        let h : node (get_or net.gates (i - suc n + 1) empty_gate).third ≡ k = sym (ap (λ x. node (get_or net.gates x empty_gate).third) q) ∙ eqb-true _ k f in
        let o = ordered (i - suc n) (omega arith) (λ z. omega arith) in
        let c = subst (λ x. CanonicalGate (n + 1) (get_or net.gates x empty_gate)) q (gate_canonical (suc i) (omega arith) (omega arith)) in
        omega (arith, third_decides (n + 1) (gate i) (get_or net.gates (i - suc n + 1) empty_gate) (omega arith) c (omega arith))

    neighbours_met : Satisfies said (neighbours_ordered n r)
    unfolding meaning said_without_counts Satisfies
    neighbours_met =
        satisfies_each said (suc n) (r - 1) _ (λ i a b. satisfies_each said 0 i _ (λ j v w. satisfies_each said 0 j _ (λ k y z.
        (not_both_met (said (S i 3 j)) (said (S (suc i) 3 k)) (in_order_thirds i j k a (omega arith) (omega arith) (omega arith)), tt))))

  -- what names a node, the variables say so
  said_names : (j i : ℕ) → 1 ≤ gate_uses j (gate i) → (said (S i 1 j) || (said (S i 2 j) || said (S i 3 j))) ≡ true
  unfolding meaning said_without_counts
  said_names j i u = one_named (eqb (node (gate i).first) j) (eqb (node (gate i).second) j) (eqb (node (gate i).third) j) u

  said_uses : (j i c : ℕ) → 1 ≤ c → c < 4 → said (S i c j) ≡ true → 1 ≤ gate_uses j (gate i)
  unfolding meaning said_without_counts
  said_uses j i zero p q e = absurd (omega arith)
  said_uses j i (suc zero) p q e = rw e (omega arith)
  said_uses j i (suc (suc zero)) p q e = rw e (omega arith)
  said_uses j i (suc (suc (suc zero))) p q e = rw e (omega arith)
  said_uses j i (suc (suc (suc (suc c)))) p q e = absurd (omega arith)

  module _ (f : ℕ) (ordered : InputsInOrder n f net) where
    named_up_to_met : (a b i c : ℕ) → a < b → b < n → symmetric_in n f a b ≡ true → n < i → i < suc n + r → 1 ≤ c → c < 4
        → some_holds said (named_up_to n a b i c) ≡ true
    named_up_to_met a b i c l m s v w p q =
        holds_or (said (S i c (suc b))) _ (λ e.
        let (k, h, u) = ordered a b (i - suc n) l m s (omega arith) (said_uses (suc b) i c p q e) in
        let back : suc n + k - suc n ≡ k = omega arith in
        some_gate_names said (suc a) (suc n) (i - n) (suc n + k) (omega arith) (omega arith)
        (said_names (suc a) (suc n + k) (subst (λ (x : ℕ). 1 ≤ gate_uses (suc a) (get_or net.gates x empty_gate)) (sym back) u)))

    in_order_met : (a b : ℕ) (s : Bool) → symmetric_in n f a b ≡ s → a < b → b < n → Satisfies said (cond s (in_order n a b r) [])
    unfolding Satisfies
    in_order_met a b false e l m = tt
    in_order_met a b true e l m =
        satisfies_each said (suc n) r _ (λ i v w.
        let at = λ (c : ℕ) (p : 1 ≤ c) (q : c < 4). named_up_to_met a b i c l m e v w p q in
        (at 1 (omega arith) (omega arith), (at 2 (omega arith) (omega arith), (at 3 (omega arith) (omega arith), tt))))

    inputs_met : Satisfies said (inputs_ordered n f r)
    inputs_met =
        satisfies_each said 0 n _ (λ a v w. satisfies_each said (suc a) (n - suc a) _ (λ b x y.
        in_order_met a b (symmetric_in n f a b) refl (omega arith) (omega arith)))

-- what the variables say of a canonical network with its neighbours and its inputs in order satisfies the symmetry clauses
pub canonical_satisfies : (n f r : ℕ) (net : Net) → size net ≡ r → Formed n net → Canonical n net → OrderedNeighbours nodes_key n net → InputsInOrder n f net
    → Satisfies (meaning n r net) (symmetry_clauses n f r)
unfolding symmetry_clauses
canonical_satisfies n f r net e g c o i =
    let s = meaning n r net in
    satisfies_both s (complements_once n r) _ (complements_met n r net e g c)
    (satisfies_both s (fan_ins_rise n r) _ (rise_met n r net e g c)
    (satisfies_both s (buffers_copy_gates n r) _ (buffers_met n r net e g c)
    (satisfies_both s (output_last n r) _ (output_met n r net e g c)
    (satisfies_both s (gates_named n r) _ (named_met n r net e g c)
    (satisfies_both s (first_row_zero n r) _ (first_row_met n r net e g c)
    (satisfies_both s (neighbours_ordered n r) _ (neighbours_met n r net e g c o) (inputs_met n r net e g c f i)))))))
