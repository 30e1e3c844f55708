-- Weights of lists, of one part after another: they are within the sum of bounds of the parts.
use Rattle.std.proofs.Common.{◌≡◌, ℕ, zero, suc, ◌+◌, ◌-◌, ◌*◌, ◌<◌, ◌≤◌, Bool, true, false, cond, ltb, List, [], ◌∷◌, ◌++◌, length, refl, ap, subst, suc-mul, arith}
use Rattle.std.specs.List.{sum_by}
use Rattle.std.proofs.lemmas.List.Sums.{sum_by-cons, sum_by-append}
use Rattle.cnf.specs.Variables.{each, each_gate, uses_of, outnumber}
use Rattle.cnf.specs.Numbers.{total}
use Rattle.cnf_laws.proofs.Each.{each_push, length_uses}

-- more parts, a greater sum
more_parts : (m p : ℕ) (g : ℕ → ℕ) → total 0 m g ≤ total 0 (p + m) g
unfolding total
more_parts m zero g = subst (λ (x : ℕ). total 0 m g ≤ total 0 x g) {x = m} (omega arith) (omega arith)
more_parts m (suc p) g =
    subst (λ (x : ℕ). total 0 m g ≤ total 0 x g) {x = suc (p + m)} (omega arith) (omega (arith, more_parts m p g))

-- the same, by the numbers of the parts
parts_up : (m x : ℕ) (g : ℕ → ℕ) → m ≤ x → total 0 m g ≤ total 0 x g
parts_up m x g l = subst (λ (y : ℕ). total 0 m g ≤ total 0 y g) {x = x - m + m} (omega arith) (more_parts m (x - m) g)

-- parts that are the same
total_of_same : (m b : ℕ) → total 0 m (λ _. b) ≡ m * b
unfolding total
total_of_same zero b = omega arith
total_of_same (suc m) b = omega (arith, total_of_same m b, suc-mul m b)

-- the weight of the uses of each gate whose uses outnumber the fan-out limit f, g x for the x-th: a gate with k gates behind it has
-- 3 * k + 1 uses
abbrev pub uses_weight : ℕ → (ℕ → ℕ) → ℕ
uses_weight f g = total 0 7 (λ k. cond (ltb f (3 * k + 1)) (total 0 (3 * k + 1) g) 0)

module _ {X : Type 0} (h : X → ℕ) where
  -- the k-th part from the first weighs at most g k
  from_front : (a m : ℕ) (f : ℕ → List X) (g : ℕ → ℕ) → ((k : ℕ) → k < m → sum_by h (f (a + k)) ≤ g k)
      → sum_by h (each a m f) ≤ total 0 m g
  unfolding total each
  from_front a zero f g b = omega arith
  from_front a (suc m) f g b =
      let e = ap (sum_by h) (each_push a m f) in
      let s = sum_by-append h (each a m f) (f (a + m)) in
      let i = from_front a m f g (λ k l. b k (omega arith)) in
      let l = b m (omega arith) in
      let z : g (0 + m) ≡ g m = ap g (omega arith) in
      omega arith

  -- the k-th part from the last weighs at most g k
  from_back : (a m : ℕ) (f : ℕ → List X) (g : ℕ → ℕ) → ((k : ℕ) → k < m → sum_by h (f (a + m - suc k)) ≤ g k)
      → sum_by h (each a m f) ≤ total 0 m g
  unfolding total each
  from_back a zero f g b = omega arith
  from_back a (suc m) f g b =
      let s = sum_by-append h (f a) (each (suc a) m f) in
      let i : sum_by h (each (suc a) m f) ≤ total 0 m g =
      from_back (suc a) m f g (λ k l. subst (λ (x : ℕ). sum_by h (f x) ≤ g k) {x = a + suc m - suc k} (omega arith) (b k (omega arith))) in
      let l : sum_by h (f a) ≤ g m = subst (λ (x : ℕ). sum_by h (f x) ≤ g m) {x = a + suc m - suc m} (omega arith) (b m (omega arith)) in
      let z : g (0 + m) ≡ g m = ap g (omega arith) in
      omega arith

  -- the weight of two lists is within the sum of the bounds of both
  pub both_within : (xs ys : List X) {x y : ℕ} → sum_by h xs ≤ x → sum_by h ys ≤ y → sum_by h (xs ++ ys) ≤ x + y
  both_within xs ys l k = omega (arith, sum_by-append h xs ys)

  -- at most x parts, the k-th of a weight of at most g k
  pub each_within : (a m x : ℕ) (f : ℕ → List X) (g : ℕ → ℕ) → m ≤ x → ((k : ℕ) → k < m → sum_by h (f (a + k)) ≤ g k)
      → sum_by h (each a m f) ≤ total 0 x g
  each_within a m x f g l b = omega (arith, from_front a m f g b, parts_up m x g l)

  -- the same, where each part has the same bound
  pub same_within : (a m x b : ℕ) (f : ℕ → List X) → m ≤ x → ((k : ℕ) → k < m → sum_by h (f (a + k)) ≤ b) → sum_by h (each a m f) ≤ x * b
  same_within a m x b f l p = omega (arith, each_within a m x f (λ _. b) l p, total_of_same x b)

  -- as `each_within`, counted from the last part
  pub each_within_back : (a m x : ℕ) (f : ℕ → List X) (g : ℕ → ℕ) → m ≤ x → ((k : ℕ) → k < m → sum_by h (f (a + m - suc k)) ≤ g k)
      → sum_by h (each a m f) ≤ total 0 x g
  each_within_back a m x f g l b = omega (arith, from_back a m f g b, parts_up m x g l)

  -- a part for each use of a gate with k gates behind it, if its uses outnumber the fan-out limit
  each_use_within : (f k u : ℕ) (part : ℕ → List X) (g : ℕ → ℕ) → u ≡ 3 * k + 1 → ((x : ℕ) → sum_by h (part (1 + x)) ≤ g x)
      → sum_by h (cond (ltb f u) (each 1 u part) []) ≤ cond (ltb f (3 * k + 1)) (total 0 (3 * k + 1) g) 0
  each_use_within f k u part g e b = rw e (at (ltb f (3 * k + 1)))
    where
      at : (c : Bool) → sum_by h (cond c (each 1 (3 * k + 1) part) []) ≤ cond c (total 0 (3 * k + 1) g) 0
      at true = each_within 1 (3 * k + 1) (3 * k + 1) part g (omega arith) (λ x l. b x)
      at false = omega arith

  -- a part for each use of each gate whose uses outnumber the fan-out limit, the x-th of a weight of at most g x
  pub uses_within : (n f r : ℕ) (part : ℕ → ℕ → List X) (g : ℕ → ℕ) → r ≤ 7 → ((j x : ℕ) → sum_by h (part j (1 + x)) ≤ g x)
      → sum_by h (each_gate n r (λ j. cond (outnumber n f r j) (each 1 (length (uses_of n r j)) (part j)) [])) ≤ uses_weight f g
  uses_within n f r part g few_gates b =
      each_within_back (suc n) r 7 _ _ few_gates
      (λ k l. let j = suc n + r - suc k in each_use_within f k (length (uses_of n r j)) (part j) g (omega (arith, length_uses n r j)) (b j))

-- the weight where each element weighs one
pub ones : {X : Type 0} (xs : List X) → sum_by (λ (x : X). 1) xs ≡ length xs
ones [] = refl
ones {X = X} (x ∷ xs) = omega (arith, sum_by-cons (λ (x : X). 1) x xs, ones xs)

-- the length of parts, each of a length of at most b
pub length_within : {X : Type 0} (a m x b : ℕ) (f : ℕ → List X) → m ≤ x → ((k : ℕ) → k < m → length (f (a + k)) ≤ b)
    → length (each a m f) ≤ x * b
length_within {X = X} a m x b f l p =
    omega (arith, ones (each a m f), same_within (λ (y : X). 1) a m x b f l (λ k u. omega (arith, ones (f (a + k)), p k u)))
