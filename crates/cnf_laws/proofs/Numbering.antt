-- The numbers of the variables run from 1 in their order.
use Rattle.std.proofs.Common.{◌≡◌, ℕ, zero, suc, ◌+◌, ◌-◌, ◌*◌, ◌^◌, ◌<◌, ◌≤◌, Bool, true, false, cond, ltb, List, [], ◌∷◌, ◌++◌, length, get_or, refl, sym, ap, subst, ◌∙◌, suc-mul, arith}
use Rattle.mig.specs.declared.question.Question.{Question}
use Rattle.cnf.specs.Variables.{Var, S, N, A, B, O, Q, H, K, each, uses_of, all_S, all_N, all_A, all_B, all_O, all_H, all_K, variables}
use Rattle.cnf.specs.Numbers.{total, counters, first_N, first_A, first_B, first_O, first_H, first_K, behind_all, number, question_variables, question_number, RunsFrom, NumberedInOrder}
use Rattle.cnf_laws.proofs.Each.{total_more}

runs_both : (g : Var → ℕ) (xs ys : List Var) (x y z : ℕ) → RunsFrom g xs x y → RunsFrom g ys y z → RunsFrom g (xs ++ ys) x z
unfolding RunsFrom
runs_both g [] ys x y z h k = subst (λ w. RunsFrom g ys w z) (sym h) k
runs_both g (v ∷ xs) ys x y z h k = (h.0, runs_both g xs ys (suc x) y z h.1 k)

runs_each : (g : Var → ℕ) (f : ℕ → List Var) (start : ℕ → ℕ) (a m x y : ℕ) → x ≡ start a → start (a + m) ≡ y
    → ((k : ℕ) → a ≤ k → k < a + m → RunsFrom g (f k) (start k) (start (suc k))) → RunsFrom g (each a m f) x y
unfolding RunsFrom each
runs_each g f start a zero x y p q h = p ∙ (ap start (omega arith) ∙ q)
runs_each g f start a (suc m) x y p q h =
    runs_both g (f a) (each (suc a) m f) x (start (suc a)) y
    (subst (λ w. RunsFrom g (f a) w (start (suc a))) (sym p) (h a (omega arith) (omega arith)))
    (runs_each g f start (suc a) m (start (suc a)) y refl (ap start (omega arith) ∙ q) (λ k l u. h k (omega arith) (omega arith)))

runs_one : (g : Var → ℕ) (v : Var) (x y : ℕ) → g v ≡ x → suc x ≡ y → RunsFrom g (v ∷ []) x y
unfolding RunsFrom
runs_one g v x y h k = (h, k)

runs_at : (g : Var → ℕ) (vs : List Var) (x y p : ℕ) → RunsFrom g vs x y → p < length vs → g (get_or vs p Q) ≡ x + p
unfolding RunsFrom
runs_at g [] x y p h l = absurd (omega arith)
runs_at g (v ∷ vs) x y zero h l = omega (arith, h.0)
runs_at g (v ∷ vs) x y (suc p) h l = omega (arith, runs_at g vs (suc x) y p h.1 (omega arith))

runs_length : (g : Var → ℕ) (vs : List Var) (x y : ℕ) → RunsFrom g vs x y → x + length vs ≡ y
unfolding RunsFrom
runs_length g [] x y h = omega (arith, h)
runs_length g (v ∷ vs) x y h = omega (arith, runs_length g vs (suc x) y h.1)

-- one row more
next_row : (x y m : ℕ) → suc x ≡ y → x * m + m ≡ y * m
next_row x y m h = sym (suc-mul x m) ∙ ap (λ z. z * m) h

no_rows : (x m : ℕ) → x ≡ 0 → x * m ≡ 0
no_rows x m h = rw h (omega arith)

minus_itself : (a : ℕ) → a - a ≡ 0
minus_itself a = omega arith

plus_minus : (a m : ℕ) → a + m - a ≡ m
plus_minus a m = omega arith

module _ (n d f r : ℕ) where
  abbrev g : Var → ℕ
  g = number n d f r

  runs_S : RunsFrom g (all_S n r) 1 (first_N n r)
  unfolding number total
  runs_S =
      runs_each g _ (λ i. 1 + total (suc n) (i - suc n) (λ x. 3 * x)) (suc n) r 1 (first_N n r)
      (omega (arith, ap (λ m. total (suc n) m (λ x. 3 * x)) (minus_itself (suc n)))) (ap (λ m. 1 + total (suc n) m (λ x. 3 * x)) (plus_minus (suc n) r))
      (λ i a b. runs_each g _ (λ c. 1 + total (suc n) (i - suc n) (λ x. 3 * x) + (c - 1) * i) 1 3 _ _ (omega arith) (omega (arith, total_more (suc n) i (λ x. 3 * x) a))
      (λ c l u. runs_each g _ (λ j. 1 + total (suc n) (i - suc n) (λ x. 3 * x) + (c - 1) * i + j) 0 i _ _ (omega arith) (omega (arith, next_row (c - 1) (suc c - 1) i (omega arith)))
      (λ j v w. runs_one g (S i c j) _ _ refl (omega arith))))

  runs_N : RunsFrom g (all_N n r) (first_N n r) (first_A n r)
  unfolding number
  runs_N =
      runs_each g _ (λ i. first_N n r + 3 * (i - suc n)) (suc n) r _ _ (omega arith) (omega arith)
      (λ i a b. runs_each g _ (λ c. first_N n r + 3 * (i - suc n) + (c - 1)) 1 3 _ _ (omega arith) (omega arith)
      (λ c l u. runs_one g (N i c) _ _ refl (omega arith)))

  runs_A : RunsFrom g (all_A n r) (first_A n r) (first_B n r)
  unfolding number
  runs_A =
      runs_each g _ (λ i. first_A n r + 3 * (i - suc n) * 2 ^ n) (suc n) r _ _
      (omega (arith, no_rows (3 * (suc n - suc n)) (2 ^ n) (omega arith))) (ap (λ x. first_A n r + 3 * x * 2 ^ n) (plus_minus (suc n) r))
      (λ i a b. runs_each g _ (λ c. first_A n r + (3 * (i - suc n) + (c - 1)) * 2 ^ n) 1 3 _ _
      (ap (λ x. first_A n r + x * 2 ^ n) (plus_none i)) (ap (λ x. first_A n r + x * 2 ^ n) (plus_three i a))
      (λ c l u. runs_each g _ (λ t. first_A n r + (3 * (i - suc n) + (c - 1)) * 2 ^ n + t) 0 (2 ^ n) _ _ (omega arith)
      (omega (arith, next_row (3 * (i - suc n) + (c - 1)) (3 * (i - suc n) + (suc c - 1)) (2 ^ n) (omega arith)))
      (λ t v w. runs_one g (A i c t) _ _ refl (omega arith))))
    where
      plus_none : (i : ℕ) → 3 * (i - suc n) ≡ 3 * (i - suc n) + (1 - 1)
      plus_none i = omega arith

      plus_three : (i : ℕ) → suc n ≤ i → 3 * (i - suc n) + (1 + 3 - 1) ≡ 3 * (suc i - suc n)
      plus_three i a = omega arith

  runs_B : RunsFrom g (all_B n r) (first_B n r) (first_O n r)
  unfolding number
  runs_B =
      runs_each g _ (λ i. first_B n r + (i - suc n) * 2 ^ n) (suc n) r _ _
      (omega (arith, no_rows (suc n - suc n) (2 ^ n) (omega arith))) (ap (λ x. first_B n r + x * 2 ^ n) (plus_minus (suc n) r))
      (λ i a b. runs_each g _ (λ t. first_B n r + (i - suc n) * 2 ^ n + t) 0 (2 ^ n) _ _ (omega arith)
      (omega (arith, next_row (i - suc n) (suc i - suc n) (2 ^ n) (omega arith)))
      (λ t v w. runs_one g (B i t) _ _ refl (omega arith)))

  runs_O : RunsFrom g (all_O n r) (first_O n r) (first_O n r + (suc n + r))
  unfolding number
  runs_O =
      runs_each g _ (λ j. first_O n r + j) 0 (suc n + r) _ _ (omega arith) (omega arith) (λ j v w. runs_one g (O j) _ _ refl (omega arith))

  runs_H : RunsFrom g (all_H n d r) (first_H n r) (first_K n d r)
  unfolding number
  runs_H =
      runs_each g _ (λ i. first_H n r + (i - suc n) * suc d) (suc n) r _ _
      (omega (arith, no_rows (suc n - suc n) (suc d) (omega arith))) (ap (λ x. first_H n r + x * suc d) (plus_minus (suc n) r))
      (λ i a b. runs_each g _ (λ t. first_H n r + (i - suc n) * suc d + t) 0 (suc d) _ _ (omega arith)
      (omega (arith, next_row (i - suc n) (suc i - suc n) (suc d) (omega arith)))
      (λ e v w. runs_one g (H i e) _ _ refl (omega arith)))

  abbrev before_gate : ℕ → ℕ
  before_gate j = first_K n d r + total (suc n) (j - suc n) (counters n f r)

  gate_K : (j : ℕ) (b : Bool) (u : ℕ) → RunsFrom g (cond b (each 1 u (λ k. each 1 f (λ q. K j k q ∷ []))) []) (before_gate j) (before_gate j + cond b (u * f) 0)
  unfolding number RunsFrom
  gate_K j false u = omega arith
  gate_K j true u =
      runs_each g _ (λ k. before_gate j + (k - 1) * f) 1 u _ _ (omega arith) (ap (λ x. before_gate j + x * f) (less_one u))
      (λ k a b. runs_each g _ (λ q. before_gate j + (k - 1) * f + (q - 1)) 1 f _ _ (omega arith)
      (omega (arith, next_row (k - 1) (suc k - 1) f (omega arith)))
      (λ q v w. runs_one g (K j k q) _ _ refl (omega arith)))
    where
      less_one : (x : ℕ) → 1 + x - 1 ≡ x
      less_one x = omega arith

  runs_K : RunsFrom g (all_K n f r) (first_K n d r) (behind_all n d f r)
  unfolding total
  runs_K =
      runs_each g _ before_gate (suc n) r _ _
      (omega (arith, ap (λ m. total (suc n) m (counters n f r)) (minus_itself (suc n)))) (ap (λ m. first_K n d r + total (suc n) m (counters n f r)) (plus_minus (suc n) r))
      (λ j a b. subst (λ y. RunsFrom g (cond (ltb f (length (uses_of n r j))) (each 1 (length (uses_of n r j)) (λ k. each 1 f (λ q. K j k q ∷ []))) []) (before_gate j) y)
      (same j a) (gate_K j (ltb f (length (uses_of n r j))) (length (uses_of n r j))))
    where
      same : (j : ℕ) → suc n ≤ j → before_gate j + counters n f r j ≡ before_gate (suc j)
      same j a = omega (arith, total_more (suc n) j (counters n f r) a)

  runs_all : RunsFrom g (variables n d f r) 1 (behind_all n d f r)
  unfolding variables RunsFrom number
  runs_all =
      let e : first_H n r ≡ suc (first_O n r + (suc n + r)) = omega arith in
      let behind = runs_both g _ _ (first_H n r) _ _ runs_H runs_K in
      runs_both g _ _ 1 _ _ runs_S (runs_both g _ _ _ _ _ runs_N (runs_both g _ _ _ _ _ runs_A (runs_both g _ _ _ _ _ runs_B
      (runs_both g _ _ _ _ _ runs_O (refl, subst (λ x. RunsFrom g (all_H n d r ++ all_K n f r) x (behind_all n d f r)) e behind)))))

pub numbered_in_order : (q : Question) (r : ℕ) → NumberedInOrder q r
numbered_in_order q r =
    let h = runs_all q.inputs q.limits.depth q.limits.fan_out r in
    subst (λ x. RunsFrom (question_number q r) (question_variables q r) 1 x) (sym (runs_length _ _ 1 _ h)) h

-- how many variables there are
pub variables_counted : (q : Question) (r : ℕ) → 1 + length (question_variables q r) ≡ behind_all q.inputs q.limits.depth q.limits.fan_out r
variables_counted q r = runs_length _ _ 1 _ (runs_all q.inputs q.limits.depth q.limits.fan_out r)

pub number_at : (q : Question) (r p : ℕ) → p < length (question_variables q r) → question_number q r (get_or (question_variables q r) p Q) ≡ 1 + p
number_at q r p l = runs_at (question_number q r) (question_variables q r) 1 _ p (numbered_in_order q r) l
