-- Lists and sums of one part after another: one part more, what holds of each element; how many uses a gate has.
use Rattle.std.proofs.Common.{◌≡◌, ℕ, zero, suc, ◌+◌, ◌-◌, ◌*◌, ◌<◌, ◌≤◌, List, [], ◌∷◌, ◌++◌, map, length, sym, refl, ap, ◌∙◌, arith, append_assoc, append-nil, suc-mul, mul-suc, one-mul, zero-mul}
use Rattle.std.specs.List.{AllByRecursion}
use Rattle.std.proofs.lemmas.List.{length-append}
use Rattle.cnf.specs.Variables.{Var, S, O, NamedClause, each, uses_of}
use Rattle.cnf.specs.Numbers.{total, numbered, numbered_literal}

-- one part more at the end
pub each_push : {X : Type 0} (a m : ℕ) (f : ℕ → List X) → each a (suc m) f ≡ each a m f ++ f (a + m)
unfolding each
each_push a zero f = append-nil (f a) ∙ ap f (omega arith)
each_push a (suc m) f =
    let e : suc a + m ≡ a + suc m = omega arith in
    ap (λ xs. f a ++ xs) (each_push (suc a) m f) ∙ sym (append_assoc (f a) (each (suc a) m f) (f (suc a + m)))
    ∙ ap (λ k. (f a ++ each (suc a) m f) ++ f k) e

pub total_more : (a x : ℕ) (g : ℕ → ℕ) → a ≤ x → total a (suc x - a) g ≡ total a (x - a) g + g x
unfolding total
total_more a x g l =
    let p : suc x - a ≡ suc (x - a) = omega arith in
    let q : a + (x - a) ≡ x = omega arith in
    ap (λ m. total a m g) p ∙ ap (λ k. total a (x - a) g + g k) q

-- three times the numbers from a on, m of them, twice
pub total_of_triples : (a m : ℕ) → 2 * total a m (λ x. 3 * x) ≡ 3 * (m * (2 * a + m - 1))
unfolding total
total_of_triples a zero = omega (arith, zero-mul (2 * a + 0 - 1))
total_of_triples a (suc zero) = omega (arith, one-mul (2 * a + 1 - 1))
total_of_triples a (suc (suc k)) =
    let e = total_of_triples a (suc k) in
    let p : 2 * a + suc k - 1 ≡ 2 * a + k = omega arith in
    let q : 2 * a + suc (suc k) - 1 ≡ suc (2 * a + k) = omega arith in
    let s : suc k * (2 * a + suc k - 1) ≡ suc k * (2 * a + k) = ap (λ (x : ℕ). suc k * x) p in
    let t : suc (suc k) * (2 * a + suc (suc k) - 1) ≡ suc k * (2 * a + k) + suc k + suc (2 * a + k) =
    ap (λ (x : ℕ). suc (suc k) * x) q ∙ suc-mul (suc k) (suc (2 * a + k)) ∙ ap (λ (x : ℕ). x + suc (2 * a + k)) (mul-suc (suc k) (2 * a + k)) in
    omega arith

pub numbered_append : (g : Var → ℕ) (xs ys : List NamedClause) → numbered g (xs ++ ys) ≡ numbered g xs ++ numbered g ys
unfolding numbered
numbered_append g [] ys = refl
numbered_append g (c ∷ xs) ys = ap (λ cs. map (numbered_literal g) c ∷ cs) (numbered_append g xs ys)

fan_in_uses : (j a m : ℕ) → length (each a m (λ i. S i 1 j ∷ S i 2 j ∷ S i 3 j ∷ [])) ≡ 3 * m
unfolding each
fan_in_uses j a zero = refl
fan_in_uses j a (suc m) = omega (arith, fan_in_uses j (suc a) m)

-- three for each later gate, and the output
pub length_uses : (n r j : ℕ) → length (uses_of n r j) ≡ 3 * (n + r - j) + 1
length_uses n r j =
    omega (
      arith,
      length-append (each (suc j) (n + r - j) (λ i. S i 1 j ∷ S i 2 j ∷ S i 3 j ∷ [])) (O j ∷ []),
      fan_in_uses j (suc j) (n + r - j),
    )

-- a property of each element of two lists holds of each of both
pub all_both : {X : Type 0} (P : X → Type 0) (xs ys : List X) → AllByRecursion P xs → AllByRecursion P ys → AllByRecursion P (xs ++ ys)
all_both P [] ys h k = k
all_both P (x ∷ xs) ys h k = (h.0, all_both P xs ys h.1 k)

pub all_each : {X : Type 0} (P : X → Type 0) (a m : ℕ) (f : ℕ → List X)
    → ((k : ℕ) → a ≤ k → k < a + m → AllByRecursion P (f k)) → AllByRecursion P (each a m f)
unfolding each
all_each P a zero f h = tt
all_each P a (suc m) f h =
    all_both P (f a) (each (suc a) m f) (h a (omega arith) (omega arith)) (all_each P (suc a) m f (λ k l u. h k (omega arith) (omega arith)))
