-- Counting the uses of a gate by the variables that say them.
use Rattle.std.proofs.Common.{◌≡◌, ℕ, zero, suc, ◌+◌, ◌-◌, ◌<◌, ◌≤◌, Bool, true, false, cond, eqb, List, [], ◌∷◌, ◌++◌, length, get_or, take, refl, ap, ◌∙◌, subst, inl, inr, arith}
use Rattle.std.proofs.lemmas.List.Elements.{All-get_or, All-from_recursion}
use Rattle.std.proofs.lemmas.Bool.{ne_eqb, cases_lt}
use Rattle.mig.specs.declared.network.Gate.{Gate}
use Rattle.mig.specs.Networks.{Net, size, node, names, uses_in, uses, empty_gate, Ordered, Formed}
use Rattle.cnf.specs.Variables.{Var, S, O, Q, each, uses_of}
use Rattle.cnf.specs.Meaning.{Assignment, count, gate_of_node}
use Rattle.cnf_laws.proofs.Each.{all_both, all_each}

pub count-append : (s : Assignment) (xs ys : List Var) → count s (xs ++ ys) ≡ count s xs + count s ys
unfolding count
count-append s [] ys = omega arith
count-append s (x ∷ xs) ys = omega (arith, count-append s xs ys)

pub count_more : (s : Assignment) (vs : List Var) (p : ℕ) → p < length vs
    → count s (take (suc p) vs) ≡ count s (take p vs) + cond (s (get_or vs p Q)) 1 0
unfolding count
count_more s [] p l = absurd (omega arith)
count_more s (v ∷ vs) zero l = omega arith
count_more s (v ∷ vs) (suc p) l = omega (arith, count_more s vs p (omega arith))

pub count-take-le : (s : Assignment) (vs : List Var) (p : ℕ) → count s (take p vs) ≤ count s vs
unfolding count
count-take-le s vs zero = omega arith
count-take-le s [] (suc p) = omega arith
count-take-le s (v ∷ vs) (suc p) = omega (arith, count-take-le s vs p)

pub count-le-length : (s : Assignment) (vs : List Var) → count s vs ≤ length vs
unfolding count
count-le-length s [] = omega arith
count-le-length s (v ∷ vs) = omega (arith, count-le-length s vs, one_at_most (s v))
  where
    one_at_most : (b : Bool) → cond b 1 0 ≤ 1
    one_at_most true = omega arith
    one_at_most false = omega arith

-- what holds of each variable S that says j, and of the output's, holds of each use of j
pub use_has : (P : Var → Type 0) (n r j : ℕ) → ((i c : ℕ) → j < i → i < suc n + r → 1 ≤ c → c < 4 → P (S i c j)) → P (O j)
    → (p : ℕ) → p < length (uses_of n r j) → P (get_or (uses_of n r j) p Q)
use_has P n r j fan_ins output p l =
    All-get_or P (uses_of n r j) p Q l
    (All-from_recursion P (uses_of n r j)
    (all_both P (each (suc j) (n + r - j) (λ i. S i 1 j ∷ S i 2 j ∷ S i 3 j ∷ [])) (O j ∷ [])
    (all_each P (suc j) (n + r - j) _ (λ i a b.
    let at = λ (c : ℕ) (u : 1 ≤ c) (v : c < 4). fan_ins i c a (omega arith) u v in
    (at 1 (omega arith) (omega arith), (at 2 (omega arith) (omega arith), (at 3 (omega arith) (omega arith), tt)))))
    (output, tt)))

-- the variables S say which codes of gate i, which is g, name j
pub record SaysNames (s : Assignment) (j i : ℕ) (g : Gate) : Type 0 where
  pub first : s (S i 1 j) ≡ eqb (node g.first) j
  pub second : s (S i 2 j) ≡ eqb (node g.second) j
  pub third : s (S i 3 j) ≡ eqb (node g.third) j

abbrev one_if : Bool → ℕ
one_if b = cond b 1 0

abbrev uses_by : ℕ → ℕ → List Var
uses_by j i = S i 1 j ∷ S i 2 j ∷ S i 3 j ∷ []

uses_of_all : (s : Assignment) (j : ℕ) (gs : List Gate) (i : ℕ)
    → ((p k : ℕ) → p < length gs → i + p ≡ k → SaysNames s j k (get_or gs p empty_gate))
    → uses_in j gs ≡ count s (each i (length gs) (uses_by j))
unfolding uses_in count each
uses_of_all s j [] i h = refl
uses_of_all s j (g ∷ gs) i h =
    let f = h 0 i (omega arith) (omega arith) in
    omega (
      arith,
      ap one_if f.first,
      ap one_if f.second,
      ap one_if f.third,
      uses_of_all s j gs (suc i) (λ p k l e. h (suc p) k (omega arith) (omega arith)),
    )

-- a code of an earlier node does not name j
pub names_none : (j c : ℕ) → node c < j → names j c ≡ 0
names_none j c l = ap one_if (ne_eqb (node c) j (omega arith))

-- the gates up to j do not use j
uses_of_later : (s : Assignment) (j : ℕ) (gs : List Gate) (i i' m : ℕ) → i' ≡ i → Ordered i' gs
    → ((p k : ℕ) → p < length gs → i + p ≡ k → j < k → SaysNames s j k (get_or gs p empty_gate))
    → i ≤ suc j → i + length gs ≡ suc j + m → uses_in j gs ≡ count s (each (suc j) m (uses_by j))
unfolding uses_in Ordered
uses_of_later s j [] i i' m q o h l e =
    uses_of_all s j [] (suc j) (λ p k a b. absurd (omega arith)) ∙ ap (λ x. count s (each (suc j) x (uses_by j))) (omega arith)
uses_of_later s j (g ∷ gs) i i' m q o h l e =
    elim (cases_lt i (suc j)) [
      | inl a ↦
          omega (
            arith,
            names_none j g.first (omega arith),
            names_none j g.second (omega arith),
            names_none j g.third (omega arith),
            uses_of_later s j gs (suc i) (i' + 1) m (omega arith) o.1 (λ p k u v w. h (suc p) k (omega arith) (omega arith) w) (omega arith) (omega arith),
          )
      | inr a ↦
          uses_of_all s j (g ∷ gs) (suc j) (λ p k u v. h p k u (omega arith) (omega arith))
          ∙ ap (λ x. count s (each (suc j) x (uses_by j))) (omega arith)
    ]

-- how many of the uses of gate j hold is its fan-out
pub count_uses : (s : Assignment) (n r j : ℕ) (net : Net) → size net ≡ r → Formed n net → n < j → j < suc n + r
    → ((i : ℕ) → n < i → i < suc n + r → j < i → SaysNames s j i (gate_of_node n net i))
    → s (O j) ≡ eqb (node net.output) j
    → count s (uses_of n r j) ≡ uses j net
unfolding count
count_uses s n r j net e f a b h q =
    omega (
      arith,
      count-append s (each (suc j) (n + r - j) (uses_by j)) (O j ∷ []),
      uses_of_later s j net.gates (suc n) (n + 1) (n + r - j) (omega arith) f.gates at (omega arith) (omega arith),
      ap one_if q,
    )
  where
    at : (p k : ℕ) → p < length net.gates → suc n + p ≡ k → j < k → SaysNames s j k (get_or net.gates p empty_gate)
    at p k l w u =
        let x : k - suc n ≡ p = omega arith in
        subst (λ y. SaysNames s j k (get_or net.gates y empty_gate)) x (h k (omega arith) (omega arith) u)
