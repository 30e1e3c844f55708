-- Sums of f 0, f 1 .. f (m - 1), and sums of the weights that a test selects.
use Rattle.std.proofs.Common.{◌≡◌, ℕ, zero, suc, ◌+◌, ◌<◌, ◌≤◌, Bool, true, false, cond, ◌&&◌, ◌||◌, eqb, ◌⊎◌, refl, ap, inl, inr, arith}
use Rattle.std.proofs.lemmas.Bool.{eq-eqb, ne_eqb, cases_eq}

-- the sum of f 0, f 1 .. f (m - 1)
unfoldable pub sum : ℕ → (ℕ → ℕ) → ℕ
sum zero f = 0
sum (suc m) f = sum m f + f m

-- the weight w if it is selected, else 0
abbrev pub weight_if : Bool → ℕ → ℕ
weight_if b w = cond b w 0

pub sum_le : (m : ℕ) (f g : ℕ → ℕ) → ((j : ℕ) → j < m → f j ≤ g j) → sum m f ≤ sum m g
unfolding sum
sum_le zero f g h = omega arith
sum_le (suc m) f g h = omega (arith, sum_le m f g (λ j l. h j (omega arith)), h m (omega arith))

sum_add : (m : ℕ) (f g : ℕ → ℕ) → sum m (λ j. f j + g j) ≡ sum m f + sum m g
unfolding sum
sum_add zero f g = refl
sum_add (suc m) f g = omega (arith, sum_add m f g)

-- the first term, and the rest
pub sum_front : (m : ℕ) (f : ℕ → ℕ) → sum (suc m) f ≡ f 0 + sum m (λ j. f (suc j))
unfolding sum
sum_front zero f = omega arith
sum_front (suc m) f = omega (arith, sum_front m f)

-- one term alone is selected
sum_none : (m o : ℕ) (w : ℕ → ℕ) → m ≤ o → sum m (λ j. weight_if (eqb j o) (w j)) ≡ 0
unfolding sum
sum_none zero o w h = refl
sum_none (suc m) o w h = rw (ne_eqb m o (omega arith)) (omega (arith, sum_none m o w (omega arith)))

pub sum_only : (m o : ℕ) (w : ℕ → ℕ) → sum m (λ j. weight_if (eqb j o) (w j)) ≤ w o
unfolding sum
sum_only zero o w = omega arith
sum_only (suc m) o w = at (sum_only m o w) (cases_eq m o)
  where
    at : sum m (λ j. weight_if (eqb j o) (w j)) ≤ w o → (m ≡ o) ⊎ (m ≡ o → ⊥) → sum m (λ j. weight_if (eqb j o) (w j)) + weight_if (eqb m o) (w m) ≤ w o
    at l (inl e) = rw (eq-eqb m o e) (omega (arith, sum_none m o w (omega arith), ap w e))
    at l (inr e) = rw (ne_eqb m o e) (omega arith)

weight_if_or : (a b : Bool) (w : ℕ) → weight_if (a || b) w ≤ weight_if a w + weight_if b w
weight_if_or true b w = omega arith
weight_if_or false b w = omega arith

-- selecting three terms more, if y, adds at most their weights
pub sum_three : (m : ℕ) (x : ℕ → Bool) (y : Bool) (a b c : ℕ) (w : ℕ → ℕ)
    → sum m (λ j. weight_if (x j || (y && (eqb j a || (eqb j b || eqb j c)))) (w j)) ≤ sum m (λ j. weight_if (x j) (w j)) + weight_if y (w a + w b + w c)
sum_three m x true a b c w =
    let f : ℕ → ℕ = λ j. weight_if (x j) (w j) in
    let p : ℕ → ℕ = λ j. weight_if (eqb j a) (w j) in
    let q : ℕ → ℕ = λ j. weight_if (eqb j b) (w j) in
    let r : ℕ → ℕ = λ j. weight_if (eqb j c) (w j) in
    let l = sum_le m (λ j. weight_if (x j || (eqb j a || (eqb j b || eqb j c))) (w j)) (λ j. f j + (p j + (q j + r j)))
    (λ j _.
    omega (arith, weight_if_or (x j) (eqb j a || (eqb j b || eqb j c)) (w j), weight_if_or (eqb j a) (eqb j b || eqb j c) (w j), weight_if_or (eqb j b) (eqb j c) (w j))) in
    omega (arith, l, sum_add m f (λ j. p j + (q j + r j)), sum_add m p (λ j. q j + r j), sum_add m q r, sum_only m a w, sum_only m b w, sum_only m c w)
sum_three m x false a b c w =
    omega (arith, sum_le m (λ j. weight_if (x j || false) (w j)) (λ j. weight_if (x j) (w j)) (λ j _. omega (arith, weight_if_or (x j) false (w j))))
