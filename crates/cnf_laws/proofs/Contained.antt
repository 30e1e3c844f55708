-- Which variables stand in the list of variables.
use Rattle.std.proofs.Common.{◌≡◌, ℕ, zero, suc, ◌+◌, ◌^◌, ◌<◌, ◌≤◌, true, cond, List, [], ◌∷◌, ◌++◌, length, refl, sym, subst, inl, inr, arith}
use Rattle.std.specs.List.{Contains}
use Rattle.std.proofs.lemmas.Bool.{cases_lt}
use Rattle.std.proofs.lemmas.List.Elements.{Contains-append_left, Contains-append_right}
use Rattle.cnf.specs.Variables.{Var, S, N, A, B, O, Q, H, K, each, uses_of, outnumber, all_S, all_N, all_A, all_B, all_O, all_H, all_K, variables}

-- what stands in one part stands in all of them
contains_each : (f : ℕ → List Var) (v : Var) (a m k : ℕ) → a ≤ k → k < a + m → Contains (f k) v → Contains (each a m f) v
unfolding each
contains_each f v a zero k l u h = absurd (omega arith)
contains_each f v a (suc m) k l u h =
    elim (cases_lt a k) [
      | inl b ↦ Contains-append_right (f a) (each (suc a) m f) v (contains_each f v (suc a) m k (omega arith) (omega arith) h)
      | inr b ↦ let e : k ≡ a = omega arith in Contains-append_left (f a) (each (suc a) m f) v (subst (λ x. Contains (f x) v) e h)
    ]

contains_alone : (v : Var) → Contains (v ∷ []) v
contains_alone v = (0, omega arith, refl)

module _ (n d f r : ℕ) where
  -- the variable stands in the list
  abbrev pub IsListed : Var → Type 0
  IsListed v = Contains (variables n d f r) v

  -- what stands behind the variables O is listed
  behind_O : (v : Var) → Contains (Q ∷ (all_H n d r ++ all_K n f r)) v → IsListed v
  unfolding variables
  behind_O v h =
      Contains-append_right (all_S n r) _ v (Contains-append_right (all_N n r) _ v (Contains-append_right (all_A n r) _ v
      (Contains-append_right (all_B n r) _ v (Contains-append_right (all_O n r) _ v h))))

  pub has_S : (i c j : ℕ) → n < i → i < suc n + r → 1 ≤ c → c < 4 → j < i → IsListed (S i c j)
  unfolding variables
  has_S i c j a b l u w =
      Contains-append_left _ _ _
      (contains_each _ _ (suc n) r i a b (contains_each _ _ 1 3 c l (omega arith) (contains_each _ _ 0 i j (omega arith) (omega arith) (contains_alone _))))

  pub has_N : (i c : ℕ) → n < i → i < suc n + r → 1 ≤ c → c < 4 → IsListed (N i c)
  unfolding variables
  has_N i c a b l u =
      Contains-append_right (all_S n r) _ _ (Contains-append_left (all_N n r) _ _
      (contains_each _ _ (suc n) r i a b (contains_each _ _ 1 3 c l (omega arith) (contains_alone _))))

  pub has_A : (i c t : ℕ) → n < i → i < suc n + r → 1 ≤ c → c < 4 → t < 2 ^ n → IsListed (A i c t)
  unfolding variables
  has_A i c t a b l u w =
      Contains-append_right (all_S n r) _ _ (Contains-append_right (all_N n r) _ _ (Contains-append_left (all_A n r) _ _
      (contains_each _ _ (suc n) r i a b (contains_each _ _ 1 3 c l (omega arith) (contains_each _ _ 0 (2 ^ n) t (omega arith) (omega arith) (contains_alone _))))))

  pub has_B : (i t : ℕ) → n < i → i < suc n + r → t < 2 ^ n → IsListed (B i t)
  unfolding variables
  has_B i t a b w =
      Contains-append_right (all_S n r) _ _ (Contains-append_right (all_N n r) _ _ (Contains-append_right (all_A n r) _ _
      (Contains-append_left (all_B n r) _ _
      (contains_each _ _ (suc n) r i a b (contains_each _ _ 0 (2 ^ n) t (omega arith) (omega arith) (contains_alone _))))))

  pub has_O : (j : ℕ) → j < suc n + r → IsListed (O j)
  unfolding variables
  has_O j w =
      Contains-append_right (all_S n r) _ _ (Contains-append_right (all_N n r) _ _ (Contains-append_right (all_A n r) _ _
      (Contains-append_right (all_B n r) _ _ (Contains-append_left (all_O n r) _ _
      (contains_each _ _ 0 (suc n + r) j (omega arith) (omega arith) (contains_alone _))))))

  pub has_Q : IsListed Q
  has_Q = behind_O Q (Contains-append_left (Q ∷ []) _ _ (contains_alone Q))

  pub has_H : (i e : ℕ) → n < i → i < suc n + r → e ≤ d → IsListed (H i e)
  has_H i e a b w =
      behind_O (H i e) (Contains-append_right (Q ∷ []) _ _ (Contains-append_left (all_H n d r) _ _
      (contains_each _ _ (suc n) r i a b (contains_each _ _ 0 (suc d) e (omega arith) (omega arith) (contains_alone _)))))

  pub has_K : (j k q : ℕ) → n < j → j < suc n + r → outnumber n f r j ≡ true → 1 ≤ k → k ≤ length (uses_of n r j) → 1 ≤ q → q ≤ f
      → IsListed (K j k q)
  has_K j k q a b e l u v w =
      behind_O (K j k q) (Contains-append_right (Q ∷ []) _ _ (Contains-append_right (all_H n d r) _ _
      (contains_each _ _ (suc n) r j a b
      (subst (λ t. Contains (cond t (each 1 (length (uses_of n r j)) (λ k'. each 1 f (λ q'. K j k' q' ∷ []))) []) (K j k q)) (sym e)
      (contains_each _ _ 1 (length (uses_of n r j)) k l (omega arith) (contains_each _ _ 1 f q v (omega arith) (contains_alone _)))))))
