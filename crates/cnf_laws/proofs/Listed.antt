-- Each variable of the clauses stands in the list of variables.
use Rattle.std.proofs.Common.{◌≡◌, ℕ, suc, ◌+◌, ◌-◌, ◌^◌, ◌<◌, ◌≤◌, Bool, true, false, cond, ltb, leb, List, [], length, get_or, All, refl, arith}
use Rattle.std.specs.List.{AllByRecursion, Contains}
use Rattle.std.proofs.lemmas.Bool.{leb-false, ltb-true}
use Rattle.std.proofs.lemmas.List.Elements.{All-from_recursion, All-weaker}
use Rattle.mig.specs.declared.question.Question.{Question}
use Rattle.mig.specs.Tables.{bit_at}
use Rattle.cnf.specs.Variables.{Var, S, N, A, B, O, Q, NamedLiteral, pos, neg, NamedClause, each, uses_of, outnumber, variables}
use Rattle.cnf.specs.Clauses.{exactly_one, given, fan_in_given, fan_in_gate, output_given, output_gate, counter, counter_step, fan_ins_chosen, fan_in_values, gate_values, output_chosen, output_values, levels_limited, fan_outs_limited, clauses_of}
use Rattle.cnf.specs.Numbers.{question_variables}
use Rattle.cnf_laws.proofs.Each.{all_both, all_each}
use Rattle.cnf_laws.proofs.Uses.{use_has}
use Rattle.cnf_laws.proofs.Contained.{IsListed, has_S, has_N, has_A, has_B, has_O, has_Q, has_H, has_K}

-- the variable of a literal
abbrev pub variable_of : NamedLiteral → Var
variable_of (pos v) = v
variable_of (neg v) = v

-- each variable of the clause is listed
abbrev pub IsListedClause : List Var → NamedClause → Type 0
IsListedClause vs c = AllByRecursion (λ (l : NamedLiteral). Contains vs (variable_of l)) c

module _ (n d f r : ℕ) (some : 1 ≤ f) where
  abbrev Listed : NamedClause → Type 0
  Listed c = IsListedClause (variables n d f r) c

  exactly_one_listed : (m : ℕ) (v : ℕ → Var) → ((j : ℕ) → j < m → IsListed n d f r (v j)) → AllByRecursion Listed (exactly_one m v)
  exactly_one_listed m v h = (
    all_each (λ (l : NamedLiteral). IsListed n d f r (variable_of l)) 0 m _ (λ j a b. (h j (omega arith), tt)),
    all_each Listed 0 m _ (λ x a b. all_each Listed (suc x) (m - suc x) _ (λ y l u. ((h x (omega arith), (h y (omega arith), tt)), tt))),
  )

  fan_ins_listed : AllByRecursion Listed (fan_ins_chosen n r)
  fan_ins_listed =
      all_each Listed (suc n) r _ (λ i a b. all_each Listed 1 3 _ (λ c l u. exactly_one_listed i (S i c) (λ j w. has_S n d f r i c j a b l (omega arith) w)))

  fan_in_listed : (i c j t : ℕ) (b v : Bool) → IsListed n d f r (S i c j) → IsListed n d f r (A i c t) → IsListed n d f r (N i c)
      → (b ≡ false → IsListed n d f r (B j t)) → AllByRecursion Listed (cond b (fan_in_given v i c j t) (fan_in_gate i c j t))
  fan_in_listed i c j t true true x y z w = ((x, (y, (z, tt))), ((x, (y, (z, tt))), tt))
  fan_in_listed i c j t true false x y z w = ((x, (y, (z, tt))), ((x, (y, (z, tt))), tt))
  fan_in_listed i c j t false v x y z w =
      let o = w refl in
      ((x, (y, (o, (z, tt)))), ((x, (y, (o, (z, tt)))), ((x, (y, (o, (z, tt)))), ((x, (y, (o, (z, tt)))), tt))))

  fan_in_values_listed : AllByRecursion Listed (fan_in_values n r)
  fan_in_values_listed =
      all_each Listed (suc n) r _ (λ i a b. all_each Listed 1 3 _ (λ c l u. all_each Listed 0 i _ (λ j v w. all_each Listed 0 (2 ^ n) _ (λ t y z.
      fan_in_listed i c j t (leb j n) (given n t j) (has_S n d f r i c j a b l (omega arith) (omega arith))
      (has_A n d f r i c t a b l (omega arith) (omega arith)) (has_N n d f r i c a b l (omega arith)) (λ e. has_B n d f r j t (leb-false j n e) (omega arith) (omega arith))))))

  gate_values_listed : AllByRecursion Listed (gate_values n r)
  gate_values_listed =
      all_each Listed (suc n) r _ (λ i a b. all_each Listed 0 (2 ^ n) _ (λ t y z.
      let x1 = has_A n d f r i 1 t a b (omega arith) (omega arith) (omega arith) in
      let x2 = has_A n d f r i 2 t a b (omega arith) (omega arith) (omega arith) in
      let x3 = has_A n d f r i 3 t a b (omega arith) (omega arith) (omega arith) in
      let o = has_B n d f r i t a b (omega arith) in
      ((x1, (x2, (o, tt))), ((x1, (x2, (o, tt))), ((x1, (x3, (o, tt))), ((x1, (x3, (o, tt))), ((x2, (x3, (o, tt))), ((x2, (x3, (o, tt))), tt))))))))

  output_listed : AllByRecursion Listed (output_chosen n r)
  output_listed = exactly_one_listed (suc n + r) O (has_O n d f r)

  table_listed : (j t : ℕ) (b v g : Bool) → IsListed n d f r (O j) → (b ≡ false → IsListed n d f r (B j t))
      → AllByRecursion Listed (cond b (output_given v g j) (output_gate g j t))
  table_listed j t true true true x w = ((x, (has_Q n d f r, tt)), tt)
  table_listed j t true true false x w = ((x, (has_Q n d f r, tt)), tt)
  table_listed j t true false true x w = ((x, (has_Q n d f r, tt)), tt)
  table_listed j t true false false x w = ((x, (has_Q n d f r, tt)), tt)
  table_listed j t false v true x w = let o = w refl in ((x, (o, (has_Q n d f r, tt))), ((x, (o, (has_Q n d f r, tt))), tt))
  table_listed j t false v false x w = let o = w refl in ((x, (o, (has_Q n d f r, tt))), ((x, (o, (has_Q n d f r, tt))), tt))

  output_values_listed : (table : ℕ) → AllByRecursion Listed (output_values n table r)
  output_values_listed table =
      all_each Listed 0 (suc n + r) _ (λ j v w. all_each Listed 0 (2 ^ n) _ (λ t y z.
      table_listed j t (leb j n) (given n t j) (bit_at table t) (has_O n d f r j (omega arith)) (λ e. has_B n d f r j t (leb-false j n e) (omega arith) (omega arith))))

  levels_listed : AllByRecursion Listed (levels_limited n d r)
  levels_listed =
      all_both Listed _ _
      (all_each Listed (suc n) r _ (λ i a b. (
        (has_H n d f r i 0 a b (omega arith), tt),
        all_each Listed 1 3 _ (λ c l u. all_each Listed (suc n) (i - suc n) _ (λ j v w. all_each Listed 0 d _ (λ e y z.
            ((has_S n d f r i c j a b l (omega arith) (omega arith), (has_H n d f r j e v (omega arith) (omega arith), (has_H n d f r i (e + 1) a b (omega arith), tt))), tt)))),
      )))
      (all_each Listed (suc n) r _ (λ j a b. ((has_O n d f r j b, (has_H n d f r j d a b (omega arith), tt)), tt)))

  use_listed : (j p : ℕ) → n < j → j < suc n + r → p < length (uses_of n r j) → IsListed n d f r (get_or (uses_of n r j) p Q)
  use_listed j p a b = use_has (IsListed n d f r) n r j (λ i c l u v w. has_S n d f r i c j (omega arith) u v w l) (has_O n d f r j b) p

  counter_listed : (j k : ℕ) → n < j → j < suc n + r → outnumber n f r j ≡ true → 1 ≤ k → k ≤ length (uses_of n r j)
      → AllByRecursion Listed (counter f j (get_or (uses_of n r j) (k - 1) Q) k)
  counter_listed j k a b e l u = ((x, (has_K n d f r j k 1 a b e l u (omega arith) some, tt)), at (ltb 1 k) refl)
    where
      x : IsListed n d f r (get_or (uses_of n r j) (k - 1) Q)
      x = use_listed j (k - 1) a b (omega arith)

      step : 1 < k → AllByRecursion Listed (counter_step f j (get_or (uses_of n r j) (k - 1) Q) k)
      step m =
          let before = λ (q : ℕ) (v : 1 ≤ q) (w : q ≤ f). has_K n d f r j (k - 1) q a b e (omega arith) (omega arith) v w in
          all_both Listed _ _
          (all_each Listed 1 f _ (λ q v w. ((before q v (omega arith), (has_K n d f r j k q a b e l u v (omega arith), tt)), tt)))
          (all_both Listed _ _
          (all_each Listed 1 (f - 1) _ (λ q v w. (
            (x, (before q v (omega arith), (has_K n d f r j k (q + 1) a b e l u (omega arith) (omega arith), tt))),
            tt,
          )))
          ((x, (before f some (omega arith), tt)), tt))

      at : (t : Bool) → ltb 1 k ≡ t → AllByRecursion Listed (cond t (counter_step f j (get_or (uses_of n r j) (k - 1) Q) k) [])
      at true m = step (ltb-true 1 k m)
      at false m = tt

  fan_outs_listed : AllByRecursion Listed (fan_outs_limited n f r)
  fan_outs_listed =
      all_each Listed (suc n) r _ (λ j a b. at j a b (ltb f (length (uses_of n r j))) refl)
    where
      at : (j : ℕ) → n < j → j < suc n + r → (t : Bool) → ltb f (length (uses_of n r j)) ≡ t
          → AllByRecursion Listed (cond t (each 1 (length (uses_of n r j)) (λ k. counter f j (get_or (uses_of n r j) (k - 1) Q) k)) [])
      at j a b true e = all_each Listed 1 (length (uses_of n r j)) _ (λ k l u. counter_listed j k a b e l (omega arith))
      at j a b false e = tt

module _ (q : Question) (r : ℕ) (some : 1 ≤ q.limits.fan_out) where
  abbrev clauses : List NamedClause
  clauses = clauses_of q.inputs q.table q.limits.depth q.limits.fan_out r

  clauses_listed : AllByRecursion (IsListedClause (question_variables q r)) clauses
  unfolding clauses_of
  clauses_listed =
      let n = q.inputs in
      let d = q.limits.depth in
      let f = q.limits.fan_out in
      let P = IsListedClause (question_variables q r) in
      all_both P (fan_ins_chosen n r) _ (fan_ins_listed n d f r some)
      (all_both P (fan_in_values n r) _ (fan_in_values_listed n d f r some)
      (all_both P (gate_values n r) _ (gate_values_listed n d f r some)
      (all_both P (output_chosen n r) _ (output_listed n d f r some)
      (all_both P (output_values n q.table r) _ (output_values_listed n d f r some q.table)
      (all_both P (levels_limited n d r) _ (levels_listed n d f r some) (fan_outs_listed n d f r some))))))

  pub variables_listed : All (All (λ (l : NamedLiteral). Contains (question_variables q r) (variable_of l))) clauses
  variables_listed =
      All-weaker (IsListedClause (question_variables q r)) (All (λ (l : NamedLiteral). Contains (question_variables q r) (variable_of l)))
      (λ c. All-from_recursion (λ (l : NamedLiteral). Contains (question_variables q r) (variable_of l)) c) clauses
      (All-from_recursion (IsListedClause (question_variables q r)) clauses clauses_listed)
