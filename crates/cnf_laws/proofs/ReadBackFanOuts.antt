-- The fan-outs of the read-back of a satisfying assignment are within the fan-out limit, so it meets the question.
use Rattle.std.proofs.Common.{◌≡◌, ℕ, zero, suc, ◌+◌, ◌-◌, ◌<◌, ◌≤◌, Bool, true, false, cond, eqb, List, [], ◌∷◌, ◌++◌, length, get_or, take, refl, sym, ap, subst, ◌∙◌, inl, inr, add-one, arith}
use Rattle.std.proofs.lemmas.Bool.{cases_lt, cases_Bool, lt-ltb, ltb-false}
use Rattle.std.proofs.lemmas.List.{take_all}
use Rattle.mig.specs.declared.question.Question.{Question}
use Rattle.mig.specs.Networks.{size, node, uses}
use Rattle.mig.specs.Questions.{Meets}
use Rattle.cnf.specs.Variables.{Var, S, N, O, Q, K, pos, neg, NamedClause, each, uses_of, outnumber}
use Rattle.cnf.specs.Clauses.{counter, clauses_of}
use Rattle.cnf.specs.Meaning.{Assignment, some_holds, Satisfies, pick, count, read_code, read_net, gate_of_node}
use Rattle.cnf_laws.proofs.Satisfied.{satisfies_left, satisfies_right, satisfies_at, first_holds, satisfies_rest}
use Rattle.cnf_laws.proofs.Literals.{two_says, three_says, not_both_says}
use Rattle.cnf_laws.proofs.Codes.{node-code}
use Rattle.cnf_laws.proofs.Uses.{count_more, count-le-length, SaysNames, count_uses}
use Rattle.cnf_laws.proofs.Groups.{SatisfiesGroups, groups_from_clauses}
use Rattle.cnf_laws.proofs.ReadBack.{length-read_gates, gate_of_read_net, fan_in_picked, output_picked, read_net_formed, read_net_computes}
use Rattle.cnf_laws.proofs.ReadBackLevels.{read_net_level}

-- the counter of gate j, whose uses are us, with a fan-out limit f
module _ (f j : ℕ) (s : Assignment) (us : List Var) (some : 1 ≤ f)
    (h : Satisfies s (each 1 (length us) (λ k. counter f j (get_or us (k - 1) Q) k))) where
  first_says : (p : ℕ) → p < length us → s (get_or us p Q) ≡ true → s (K j (suc p) 1) ≡ true
  first_says p l =
      two_says (s (get_or us p Q)) (s (K j (suc p) 1))
      (subst (λ x. some_holds s (neg (get_or us x Q) ∷ pos (K j (suc p) 1) ∷ []) ≡ true) (omega arith) (first_holds s _ _ (satisfies_at s 1 (length us) _ h (suc p) (omega arith) (omega arith))))

  -- the clauses at a use behind the first
  abbrev step_clauses : ℕ → ℕ → List NamedClause
  step_clauses p y =
      each 1 f (λ q. (neg (K j y q) ∷ pos (K j (suc p) q) ∷ []) ∷ [])
      ++ (each 1 (f - 1) (λ q. (neg (get_or us y Q) ∷ neg (K j y q) ∷ pos (K j (suc p) (q + 1)) ∷ []) ∷ [])
      ++ ((neg (get_or us y Q) ∷ neg (K j y f) ∷ []) ∷ []))

  step_satisfied : (p : ℕ) → 1 ≤ p → p < length us → Satisfies s (step_clauses p p)
  step_satisfied p a l =
      let x = satisfies_rest s _ _ (satisfies_at s 1 (length us) _ h (suc p) (omega arith) (omega arith)) in
      let e : suc p - 1 ≡ p = omega arith in
      subst (λ y. Satisfies s (step_clauses p y)) e
      (subst (λ b. Satisfies s (cond b (step_clauses p (suc p - 1)) [])) (lt-ltb 1 (suc p) (omega arith)) x)

  stays : (p q : ℕ) → 1 ≤ p → p < length us → 1 ≤ q → q ≤ f → s (K j p q) ≡ true → s (K j (suc p) q) ≡ true
  stays p q a l b u =
      two_says (s (K j p q)) (s (K j (suc p) q))
      (first_holds s _ _ (satisfies_at s 1 f _ (satisfies_left s _ _ (step_satisfied p a l)) q b (omega arith)))

  rises : (p q : ℕ) → 1 ≤ p → p < length us → 1 ≤ q → q < f → s (get_or us p Q) ≡ true → s (K j p q) ≡ true → s (K j (suc p) (suc q)) ≡ true
  rises p q a l b u x y =
      let z =
      three_says (s (get_or us p Q)) (s (K j p q)) (s (K j (suc p) (q + 1)))
      (first_holds s _ _ (satisfies_at s 1 (f - 1) _ (satisfies_left s _ _ (satisfies_right s _ _ (step_satisfied p a l))) q b (omega arith))) x y in
      rw add-one at z

  stops : (p : ℕ) → 1 ≤ p → p < length us → s (get_or us p Q) ≡ true → s (K j p f) ≡ true → ⊥
  stops p a l =
      not_both_says (s (get_or us p Q)) (s (K j p f))
      (first_holds s (neg (get_or us p Q) ∷ neg (K j p f) ∷ []) []
      (satisfies_right s (each 1 (f - 1) (λ q. (neg (get_or us p Q) ∷ neg (K j p q) ∷ pos (K j (suc p) (q + 1)) ∷ []) ∷ [])) _
      (satisfies_right s (each 1 f (λ q. (neg (K j p q) ∷ pos (K j (suc p) q) ∷ []) ∷ [])) _ (step_satisfied p a l))))

  abbrev held : ℕ → ℕ
  held p = count s (take p us)

  none_held : (p : ℕ) → p ≡ 0 → held p ≡ 0
  unfolding count
  none_held p e = ap held e

  -- where uses are held there is one
  some_before : (p : ℕ) → 1 ≤ held p → 1 ≤ p
  some_before p x =
      elim (cases_lt 0 p) [
        | inl b ↦ b
        | inr b ↦ omega (arith, none_held p (omega arith))
      ]

  holds_more : (p : ℕ) → p < length us → s (get_or us p Q) ≡ true → held (suc p) ≡ held p + 1
  holds_more p l x = rw x at (count_more s us p l)

  holds_same : (p : ℕ) → p < length us → s (get_or us p Q) ≡ false → held (suc p) ≡ held p
  holds_same p l x = let z : held (suc p) ≡ held p + 0 = rw x at (count_more s us p l) in omega arith

  -- if q of the first p uses hold, K says so
  counted : (p q : ℕ) → p ≤ length us → 1 ≤ q → q ≤ f → q ≤ held p → s (K j p q) ≡ true
  counted zero q l a b u = absurd (omega (arith, none_held 0 refl))
  counted (suc p) q l a b u =
      elim (cases_lt (held p) q) [
        | inr e ↦ stays p q (some_before p (omega arith)) l a b (counted p q (omega arith) a b e)
        | inl e ↦
            elim (cases_Bool (s (get_or us p Q))) [
              | inl x ↦ last_held x (holds_more p l x) e (λ k v w z. counted p k (omega arith) v w z)
              | inr x ↦ absurd (omega (arith, holds_same p l x))
            ]
      ]
    where
      last_held : s (get_or us p Q) ≡ true → held (suc p) ≡ held p + 1 → held p < q
          → ((k : ℕ) → 1 ≤ k → k ≤ f → k ≤ held p → s (K j p k) ≡ true) → s (K j (suc p) q) ≡ true
      last_held x y e ih =
          elim (cases_lt q 2) [
            | inl z ↦ let w : 1 ≡ q = omega arith in subst (λ k. s (K j (suc p) k) ≡ true) w (first_says p l x)
            | inr z ↦
                let w : suc (held p) ≡ q = omega arith in
                subst (λ k. s (K j (suc p) k) ≡ true) w
                (rises p (held p) (some_before p (omega arith)) l (omega arith) (omega arith) x (ih (held p) (omega arith) (omega arith) (omega arith)))
          ]

  held_within : (p : ℕ) → p ≤ length us → held p ≤ f
  held_within zero l = omega (arith, none_held 0 refl)
  held_within (suc p) l =
      elim (cases_Bool (s (get_or us p Q))) [
        | inr x ↦ omega (arith, holds_same p l x, held_within p (omega arith))
        | inl x ↦
            elim (cases_lt (held p) f) [
              | inl b ↦ omega (arith, holds_more p l x)
              | inr b ↦ absurd (stops p (some_before p (omega arith)) l x (counted p f (omega arith) some (omega arith) b))
            ]
      ]

module _ (n table d f r : ℕ) (s : Assignment) (some : 1 ≤ f) (h : SatisfiesGroups n table d f r s) where
  names_said : (i : ℕ) → n < i → i < suc n + r → (j : ℕ) → j < i → SaysNames s j i (gate_of_node n (read_net n r s) i)
  names_said i a b j l =
      subst (λ g. SaysNames s j i g) (sym (gate_of_read_net n r s i a b)) (record {
        first = at 1 (omega arith) (omega arith);
        second = at 2 (omega arith) (omega arith);
        third = at 3 (omega arith) (omega arith);
      })
    where
      at : (c : ℕ) → 1 ≤ c → c < 4 → s (S i c j) ≡ eqb (node (read_code s i c)) j
      at c u v =
          let w = fan_in_picked n r s h.fan_ins i c a b u v in
          w.only j l ∙ ap (λ y. eqb y j) (sym (node-code (pick i (λ k. s (S i c k))) (s (N i c))))

  read_uses : (j : ℕ) → n < j → j < suc n + r → count s (uses_of n r j) ≡ uses j (read_net n r s)
  read_uses j a b =
      let w = output_picked n r s h.output in
      count_uses s n r j (read_net n r s) (length-read_gates s (suc n) r) (read_net_formed n r s h.fan_ins h.output) a b
      (λ i u v l. names_said i u v j l)
      (w.only j b ∙ ap (λ x. eqb x j) (sym (node-code (pick (suc n + r) (λ i. s (O i))) (s Q))))

  uses_within : (j : ℕ) (t : Bool) → outnumber n f r j ≡ t
      → Satisfies s (cond t (each 1 (length (uses_of n r j)) (λ k. counter f j (get_or (uses_of n r j) (k - 1) Q) k)) [])
      → count s (uses_of n r j) ≤ f
  uses_within j true e g =
      let us = uses_of n r j in
      let w = held_within f j s us some g (length us) (omega arith) in
      subst (λ vs. count s vs ≤ f) (take_all (length us) us (omega arith)) w
  uses_within j false e g = omega (arith, count-le-length s (uses_of n r j), ltb-false f (length (uses_of n r j)) e)

  read_net_fan_outs : (j : ℕ) → n < j → j < n + 1 + size (read_net n r s) → uses j (read_net n r s) ≤ f
  read_net_fan_outs j a b =
      let l : j < suc n + r = omega (arith, length-read_gates s (suc n) r) in
      omega (arith, read_uses j a l, uses_within j (outnumber n f r j) refl (satisfies_at s (suc n) r _ h.fan_outs j a l))

-- the read-back of a satisfying assignment meets the question
pub read_net_meets : (q : Question) (r : ℕ) (s : Assignment) → 1 ≤ q.limits.fan_out
    → Satisfies s (clauses_of q.inputs q.table q.limits.depth q.limits.fan_out r) → Meets q (read_net q.inputs r s)
read_net_meets q r s some h =
    let g = groups_from_clauses q.inputs q.table q.limits.depth q.limits.fan_out r s h in
    record {
      formed = read_net_formed q.inputs r s g.fan_ins g.output;
      computes = read_net_computes q.inputs q.table q.limits.depth q.limits.fan_out r s g;
      within = record {
        level = read_net_level q.inputs q.table q.limits.depth q.limits.fan_out r s g;
        fan_outs = read_net_fan_outs q.inputs q.table q.limits.depth q.limits.fan_out r s some g;
      };
    }
