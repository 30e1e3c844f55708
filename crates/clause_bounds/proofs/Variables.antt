-- The number of the variables of a question and at most seven gates, kind by kind.
use Rattle.std.proofs.Common.{ℕ, suc, ◌+◌, ◌*◌, ◌^◌, ◌≤◌, [], ◌∷◌, ◌++◌, length, arith}
use Rattle.std.specs.List.{sum_by}
use Rattle.std.proofs.Math.Pow.{pow_mono}
use Rattle.cnf.specs.Variables.{Var, K, Q, each, all_S, all_N, all_A, all_B, all_O, all_H, all_K, variables}
use Rattle.cnf.specs.Numbers.{total}
use Rattle.clause_bounds.proofs.Weights.{both_within, each_within, same_within, uses_weight, uses_within, ones}

-- S
abbrev count_S : ℕ
count_S = total 0 7 (λ k. 3 * ((5 + k) * 1))

-- K, with a fan-out limit f
abbrev count_K : ℕ → ℕ
count_K f = uses_weight f (λ _. f * 1)

-- all kinds: S, N, A, B, O, Q, H and K
abbrev pub count_variables : ℕ → ℕ
count_variables f = count_S + (7 * 3 + (7 * (3 * 16) + (7 * 16 + (12 + (1 + (7 * 8 + count_K f))))))

module _ (n r : ℕ) (few_inputs : n ≤ 4) (few_gates : r ≤ 7) where
  abbrev one : Var → ℕ
  one v = 1

  rows : 2 ^ n ≤ 16
  rows = pow_mono few_inputs

  S_within : sum_by one (all_S n r) ≤ count_S
  S_within =
      each_within one (suc n) r 7 _ _ few_gates
      (λ k l. same_within one 1 3 3 ((5 + k) * 1) _ (omega arith)
      (λ c u. same_within one 0 (suc n + k) (5 + k) 1 _ (omega arith) (λ j v. omega arith)))

  N_within : sum_by one (all_N n r) ≤ 7 * 3
  N_within = same_within one (suc n) r 7 3 _ few_gates (λ k l. same_within one 1 3 3 1 _ (omega arith) (λ c u. omega arith))

  A_within : sum_by one (all_A n r) ≤ 7 * (3 * 16)
  A_within =
      same_within one (suc n) r 7 (3 * 16) _ few_gates
      (λ k l. same_within one 1 3 3 16 _ (omega arith) (λ c u. same_within one 0 (2 ^ n) 16 1 _ rows (λ t v. omega arith)))

  B_within : sum_by one (all_B n r) ≤ 7 * 16
  B_within = same_within one (suc n) r 7 16 _ few_gates (λ k l. same_within one 0 (2 ^ n) 16 1 _ rows (λ t u. omega arith))

  O_within : sum_by one (all_O n r) ≤ 12
  O_within = same_within one 0 (suc n + r) 12 1 _ (omega arith) (λ j l. omega arith)

  H_within : (d : ℕ) → d ≤ 7 → sum_by one (all_H n d r) ≤ 7 * 8
  H_within d few_levels =
      same_within one (suc n) r 7 8 _ few_gates (λ k l. same_within one 0 (suc d) 8 1 _ (omega arith) (λ e u. omega arith))

  K_within : (f : ℕ) → sum_by one (all_K n f r) ≤ count_K f
  K_within f =
      uses_within one n f r (λ j k. each 1 f (λ q. K j k q ∷ [])) _ few_gates
      (λ j x. same_within one 1 f f 1 _ (omega arith) (λ q l. omega arith))

  -- there are no more variables than this
  pub variables_within : (d f : ℕ) → d ≤ 7 → length (variables n d f r) ≤ count_variables f
  unfolding variables
  variables_within d f few_levels =
      let last : sum_by one (Q ∷ (all_H n d r ++ all_K n f r)) ≤ 1 + (7 * 8 + count_K f) =
      both_within one (Q ∷ []) (all_H n d r ++ all_K n f r) (omega arith) (both_within one (all_H n d r) (all_K n f r) (H_within d few_levels) (K_within f)) in
      let all : sum_by one (variables n d f r) ≤ count_variables f =
      both_within one (all_S n r) _ S_within
      (both_within one (all_N n r) _ N_within
      (both_within one (all_A n r) _ A_within
      (both_within one (all_B n r) _ B_within
      (both_within one (all_O n r) _ O_within last)))) in
      omega (arith, ones (variables n d f r))
