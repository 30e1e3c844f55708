-- The weight of the clauses of a question and at most seven gates, group by group, where a clause weighs by its length.
use Rattle.std.proofs.Common.{◌≡◌, ℕ, suc, ◌+◌, ◌-◌, ◌*◌, ◌^◌, ◌<◌, ◌≤◌, Bool, true, false, cond, ltb, leb, ◌⊎◌, inl, inr, [], ◌∷◌, length, get_or, arith}
use Rattle.std.specs.List.{sum_by}
use Rattle.std.proofs.Math.Pow.{pow_mono}
use Rattle.std.proofs.lemmas.Bool.{cases_lt, lt-ltb, le-ltb, le-leb, lt-leb}
use Rattle.std.proofs.lemmas.List.Sums.{sum_by-cons, sum_by-append}
use Rattle.mig.specs.Tables.{bit_at}
use Rattle.cnf.specs.Variables.{Var, S, O, Q, H, K, pos, neg, NamedClause, each, uses_of}
use Rattle.cnf.specs.Clauses.{exactly_one, given, fan_in_given, fan_in_gate, output_given, output_gate, counter_step, counter, fan_ins_chosen, fan_in_values, gate_values, output_chosen, output_values, levels_limited, fan_outs_limited, clauses_of}
use Rattle.cnf.specs.Numbers.{total}
use Rattle.clause_bounds.proofs.Weights.{both_within, each_within, each_within_back, same_within, uses_weight, uses_within, length_within}

module _ (w : ℕ → ℕ) where
  -- a clause weighs by its length
  abbrev pub weighs : NamedClause → ℕ
  weighs c = w (length c)

  -- exactly one of x
  abbrev exactly_one_weight : ℕ → ℕ
  exactly_one_weight x = w x + total 0 x (λ k. (x - suc k) * w 2)

  -- group 1
  abbrev choice_weight : ℕ
  choice_weight = total 0 7 (λ k. 3 * exactly_one_weight (5 + k))

  -- the value of a fan-in of the k-th gate in a row, for the x-th node before that gate
  abbrev row_weight : ℕ → ℕ → ℕ
  row_weight k x = cond (ltb x k) (4 * w 4) (2 * w 3)

  -- group 2
  abbrev value_weight : ℕ
  value_weight = total 0 7 (λ k. 3 * total 0 (5 + k) (λ x. 16 * row_weight k x))

  -- group 3
  abbrev majority_weight : ℕ
  majority_weight = 7 * (16 * (6 * w 3))

  -- the value of the output in a row, for the x-th node from the last
  abbrev output_row_weight : ℕ → ℕ
  output_row_weight x = cond (ltb x 7) (2 * w 3) (w 2)

  -- group 5
  abbrev output_value_weight : ℕ
  output_value_weight = total 0 12 (λ x. 16 * output_row_weight x)

  -- the levels of the k-th gate
  abbrev level_weight : ℕ → ℕ
  level_weight k = w 1 + 3 * (k * (7 * w 3))

  -- group 6
  abbrev levels_weight : ℕ
  levels_weight = total 0 7 level_weight + 7 * w 2

  -- a step of a count with the fan-out limit f
  abbrev step_weight : ℕ → ℕ
  step_weight f = f * w 2 + ((f - 1) * w 3 + w 2)

  -- how a use is counted, which is the use k of its gate
  abbrev counter_weight : ℕ → ℕ → ℕ
  counter_weight f k = w 2 + cond (ltb 1 k) (step_weight f) 0

  -- group 7
  abbrev fan_outs_weight : ℕ → ℕ
  fan_outs_weight f = uses_weight f (λ x. counter_weight f (1 + x))

  -- the seven groups
  abbrev pub question_weight : ℕ → ℕ
  question_weight f =
      choice_weight + (value_weight + (majority_weight + (exactly_one_weight 12 + (output_value_weight + (levels_weight + fan_outs_weight f)))))

module _ (w : ℕ → ℕ) (up : (x y : ℕ) → x ≤ y → w x ≤ w y) where
  exactly_one_within : (m x : ℕ) (v : ℕ → Var) → m ≤ x → sum_by (weighs w) (exactly_one m v) ≤ exactly_one_weight w x
  exactly_one_within m x v l =
      let some = each 0 m (λ j. pos (v j) ∷ []) in
      let pairs = each 0 m (λ i. each (suc i) (m - suc i) (λ j. (neg (v i) ∷ neg (v j) ∷ []) ∷ [])) in
      let few : length some ≤ x * 1 = length_within 0 m x 1 _ l (λ k u. omega arith) in
      let rest : sum_by (weighs w) pairs ≤ total 0 x (λ k. (x - suc k) * w 2) =
      each_within (weighs w) 0 m x _ _ l (λ k u. same_within (weighs w) (suc (0 + k)) (m - suc (0 + k)) (x - suc k) (w 2) _ (omega arith) (λ j z. omega arith)) in
      omega (arith, sum_by-cons (weighs w) some pairs, up (length some) x (omega arith))

  module _ (n r : ℕ) (few_inputs : n ≤ 4) (few_gates : r ≤ 7) where
    rows : 2 ^ n ≤ 16
    rows = pow_mono few_inputs

    choices_within : sum_by (weighs w) (fan_ins_chosen n r) ≤ choice_weight w
    choices_within =
        each_within (weighs w) (suc n) r 7 _ _ few_gates
        (λ k l. same_within (weighs w) 1 3 3 (exactly_one_weight w (5 + k)) _ (omega arith)
        (λ c u. exactly_one_within (suc n + k) (5 + k) (S (suc n + k) (1 + c)) (omega arith)))

    given_within : (v : Bool) (i c j t : ℕ) → sum_by (weighs w) (fan_in_given v i c j t) ≤ 2 * w 3
    given_within true i c j t = omega arith
    given_within false i c j t = omega arith

    value_within : (v : Bool) (i c j t k x : ℕ) → j + suc x ≡ suc n + k → (x < k) ⊎ (k ≤ x)
        → sum_by (weighs w) (cond (leb j n) (fan_in_given v i c j t) (fan_in_gate i c j t)) ≤ row_weight w k x
    value_within v i c j t k x e (inl l) = rw (lt-leb j n (omega arith)) (rw (lt-ltb x k l) (omega arith))
    value_within v i c j t k x e (inr l) = rw (le-leb j n (omega arith)) (rw (le-ltb x k l) (given_within v i c j t))

    values_within : sum_by (weighs w) (fan_in_values n r) ≤ value_weight w
    values_within =
        each_within (weighs w) (suc n) r 7 _ _ few_gates
        (λ k l. same_within (weighs w) 1 3 3 (total 0 (5 + k) (λ x. 16 * row_weight w k x)) _ (omega arith)
        (λ c u. each_within_back (weighs w) 0 (suc n + k) (5 + k) _ _ (omega arith)
        (λ x m. same_within (weighs w) 0 (2 ^ n) 16 (row_weight w k x) _ rows
        (λ t z. let j = 0 + (suc n + k) - suc x in value_within (given n (0 + t) j) (suc n + k) (1 + c) j (0 + t) k x (omega arith) (cases_lt x k)))))

    majorities_within : sum_by (weighs w) (gate_values n r) ≤ majority_weight w
    majorities_within =
        same_within (weighs w) (suc n) r 7 (16 * (6 * w 3)) _ few_gates
        (λ k l. same_within (weighs w) 0 (2 ^ n) 16 (6 * w 3) _ rows (λ t u. omega arith))

    output_within : sum_by (weighs w) (output_chosen n r) ≤ exactly_one_weight w 12
    output_within = exactly_one_within (suc n + r) 12 O (omega arith)

    output_given_within : (v f : Bool) (j : ℕ) → sum_by (weighs w) (output_given v f j) ≤ w 2
    output_given_within true true j = omega arith
    output_given_within true false j = omega arith
    output_given_within false true j = omega arith
    output_given_within false false j = omega arith

    output_gate_within : (f : Bool) (j t : ℕ) → sum_by (weighs w) (output_gate f j t) ≤ 2 * w 3
    output_gate_within true j t = omega arith
    output_gate_within false j t = omega arith

    output_row_within : (v f : Bool) (j t x : ℕ) → j + suc x ≡ suc n + r → (x < r) ⊎ (r ≤ x)
        → sum_by (weighs w) (cond (leb j n) (output_given v f j) (output_gate f j t)) ≤ output_row_weight w x
    output_row_within v f j t x e (inl l) = rw (lt-leb j n (omega arith)) (rw (lt-ltb x 7 (omega arith)) (output_gate_within f j t))
    output_row_within v f j t x e (inr l) =
        rw (le-leb j n (omega arith)) (omega (arith, output_given_within v f j, at (ltb x 7)))
      where
        at : (b : Bool) → w 2 ≤ cond b (2 * w 3) (w 2)
        at true = omega (arith, up 2 3 (omega arith))
        at false = omega arith

    output_values_within : (table : ℕ) → sum_by (weighs w) (output_values n table r) ≤ output_value_weight w
    output_values_within table =
        each_within_back (weighs w) 0 (suc n + r) 12 _ _ (omega arith)
        (λ x l. same_within (weighs w) 0 (2 ^ n) 16 (output_row_weight w x) _ rows
        (λ t u. let j = 0 + (suc n + r) - suc x in output_row_within (given n (0 + t) j) (bit_at table (0 + t)) j (0 + t) x (omega arith) (cases_lt x r)))

    levels_within : (d : ℕ) → d ≤ 7 → sum_by (weighs w) (levels_limited n d r) ≤ levels_weight w
    levels_within d few_levels =
        let steps = λ (i : ℕ). each 1 3 (λ c. each (suc n) (i - suc n) (λ j. each 0 d (λ e. (neg (S i c j) ∷ neg (H j e) ∷ pos (H i (e + 1)) ∷ []) ∷ []))) in
        let gates = each (suc n) r (λ i. (pos (H i 0) ∷ []) ∷ steps i) in
        let outputs = each (suc n) r (λ j. (neg (O j) ∷ neg (H j d) ∷ []) ∷ []) in
        let step : (k : ℕ) → sum_by (weighs w) (steps (suc n + k)) ≤ 3 * (k * (7 * w 3)) =
        λ k. same_within (weighs w) 1 3 3 (k * (7 * w 3)) _ (omega arith)
        (λ c u. same_within (weighs w) (suc n) (suc n + k - suc n) k (7 * w 3) _ (omega arith)
        (λ j v. same_within (weighs w) 0 d 7 (w 3) _ few_levels (λ e z. omega arith))) in
        let x : sum_by (weighs w) gates ≤ total 0 7 (level_weight w) =
        each_within (weighs w) (suc n) r 7 _ _ few_gates
        (λ k l. omega (arith, sum_by-cons (weighs w) (pos (H (suc n + k) 0) ∷ []) (steps (suc n + k)), step k)) in
        let y : sum_by (weighs w) outputs ≤ 7 * w 2 = same_within (weighs w) (suc n) r 7 (w 2) _ few_gates (λ k l. omega arith) in
        omega (arith, sum_by-append (weighs w) gates outputs)

    step_within : (f j : ℕ) (u : Var) (k : ℕ) → sum_by (weighs w) (counter_step f j u k) ≤ step_weight w f
    step_within f j u k =
        let kept = each 1 f (λ q. (neg (K j (k - 1) q) ∷ pos (K j k q) ∷ []) ∷ []) in
        let raised = each 1 (f - 1) (λ q. (neg u ∷ neg (K j (k - 1) q) ∷ pos (K j k (q + 1)) ∷ []) ∷ []) in
        both_within (weighs w) kept _ (same_within (weighs w) 1 f f (w 2) _ (omega arith) (λ q l. omega arith))
        (both_within (weighs w) raised _ (same_within (weighs w) 1 (f - 1) (f - 1) (w 3) _ (omega arith) (λ q l. omega arith)) (omega arith))

    counter_within : (f j : ℕ) (u : Var) (k : ℕ) → sum_by (weighs w) (counter f j u k) ≤ counter_weight w f k
    counter_within f j u k =
        omega (arith, sum_by-cons (weighs w) (neg u ∷ pos (K j k 1) ∷ []) (cond (ltb 1 k) (counter_step f j u k) []), at (ltb 1 k))
      where
        at : (b : Bool) → sum_by (weighs w) (cond b (counter_step f j u k) []) ≤ cond b (step_weight w f) 0
        at true = step_within f j u k
        at false = omega arith

    fan_outs_within : (f : ℕ) → sum_by (weighs w) (fan_outs_limited n f r) ≤ fan_outs_weight w f
    fan_outs_within f =
        uses_within (weighs w) n f r (λ j k. counter f j (get_or (uses_of n r j) (k - 1) Q) k) _ few_gates
        (λ j x. counter_within f j (get_or (uses_of n r j) (1 + x - 1) Q) (1 + x))

    -- the clauses of a question weigh no more than this
    pub question_within : (table d f : ℕ) → d ≤ 7 → sum_by (weighs w) (clauses_of n table d f r) ≤ question_weight w f
    unfolding clauses_of
    question_within table d f few_levels =
        both_within (weighs w) (fan_ins_chosen n r) _ choices_within
        (both_within (weighs w) (fan_in_values n r) _ values_within
        (both_within (weighs w) (gate_values n r) _ majorities_within
        (both_within (weighs w) (output_chosen n r) _ output_within
        (both_within (weighs w) (output_values n table r) _ (output_values_within table)
        (both_within (weighs w) (levels_limited n d r) _ (levels_within d few_levels) (fan_outs_within f))))))
