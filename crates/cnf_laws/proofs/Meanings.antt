-- What the variables say of a network of r gates satisfies the clauses of each question that the network meets.
use Rattle.std.proofs.Common.{◌≡◌, ℕ, suc, ◌+◌, ◌-◌, ◌^◌, ◌<◌, ◌≤◌, max, Bool, true, false, cond, eqb, ltb, leb, List, [], length, get_or, take, replicate, refl, sym, ap, subst, ◌∙◌, inl, inr, arith}
use Rattle.std.proofs.lemmas.Bool.{eqb-true, cases_lt, le-leb, lt-leb, leb-true, lt-ltb, ltb-true}
use Rattle.std.proofs.lemmas.List.{length-replicate}
use Rattle.mig.specs.declared.network.Gate.{Gate}
use Rattle.mig.specs.declared.question.Question.{Question}
use Rattle.mig.specs.Networks.{Net, size, node, complemented, value_at, walk, bits, levels, Formed, uses}
use Rattle.mig.specs.Tables.{bit_at}
use Rattle.mig.specs.Questions.{row_start, Computes, level, Meets}
use Rattle.mig_laws.proofs.Walks.{walk_keeps}
use Rattle.mig_laws.proofs.Nodes.{level_at}
use Rattle.cnf.specs.Variables.{Var, S, O, Q, H, K, each, uses_of, outnumber}
use Rattle.cnf.specs.Clauses.{given, counter, counter_step, fan_ins_chosen, fan_in_values, gate_values, output_chosen, output_values, levels_limited, fan_outs_limited, clauses_of}
use Rattle.cnf.specs.Meaning.{Assignment, Satisfies, gate_of_node, fan_in, count, said_without_counts, meaning}
use Rattle.cnf_laws.proofs.Satisfied.{satisfies_both, satisfies_each}
use Rattle.cnf_laws.proofs.Literals.{one_met, two_met, three_met, not_both_met}
use Rattle.cnf_laws.proofs.ExactlyOne.{exactly_one_satisfied}
use Rattle.cnf_laws.proofs.Values.{turn, fan_in_met, gate_met, output_met}
use Rattle.cnf_laws.proofs.Equations.{length-row_start, gate_equation, gate_below}
use Rattle.cnf_laws.proofs.Uses.{count_more, count-take-le, use_has, count_uses}
use Rattle.cnf_laws.proofs.Groups.{clauses_from_groups}

-- what holds of the three fan-ins holds of each
fan_in_of_three : (P : ℕ → Type 0) (c : ℕ) (g : Gate) → P g.first → P g.second → P g.third → P (fan_in c g)
fan_in_of_three P c g x y z = at (eqb c 1) (eqb c 2)
  where
    at : (a b : Bool) → P (cond a g.first (cond b g.second g.third))
    at true b = x
    at false true = y
    at false false = z

module _ (n r : ℕ) (net : Net) (sized : size net ≡ r) (formed : Formed n net) where
  abbrev said : Assignment
  said = meaning n r net

  abbrev row : ℕ → List Bool
  row t = walk bits (row_start n t) net.gates

  abbrev node_levels : List ℕ
  node_levels = walk levels (replicate (n + 1) 0) net.gates

  fan_in_below : (i c : ℕ) → n < i → i < suc n + r → node (fan_in c (gate_of_node n net i)) < i
  fan_in_below i c a b =
      let w = gate_below n net i formed a (omega arith) in
      fan_in_of_three (λ x. node x < i) c (gate_of_node n net i) w.0 w.1 w.2

  fan_ins_met : Satisfies said (fan_ins_chosen n r)
  unfolding meaning said_without_counts
  fan_ins_met =
      satisfies_each said (suc n) r _ (λ i a b. satisfies_each said 1 3 _ (λ c l u.
      exactly_one_satisfied said i (S i c) (node (fan_in c (gate_of_node n net i))) (fan_in_below i c a b) (λ k. refl)))

  -- a node's value: given, or by the walk
  row_at : (t j : ℕ) → get_or (row t) j false ≡ cond (leb j n) (given n t j) (get_or (row t) j false)
  row_at t j =
      elim (cases_lt n j) [
        | inl e ↦ sym (ap (λ b. cond b (given n t j) (get_or (row t) j false)) (lt-leb j n e))
        | inr e ↦
            walk_keeps bits (row_start n t) net.gates false j (omega (arith, length-row_start n t))
            ∙ sym (ap (λ b. cond b (given n t j) (get_or (row t) j false)) (le-leb j n e))
      ]

  code_at : (t j c : ℕ) → eqb (node c) j ≡ true
      → value_at bits (row t) c ≡ turn (complemented c) (cond (leb j n) (given n t j) (get_or (row t) j false))
  code_at t j c e = ap (turn (complemented c)) (ap (λ x. get_or (row t) x false) (eqb-true (node c) j e) ∙ row_at t j)

  fan_in_bits_met : Satisfies said (fan_in_values n r)
  unfolding meaning said_without_counts
  fan_in_bits_met =
      satisfies_each said (suc n) r _ (λ i a b. satisfies_each said 1 3 _ (λ c l u. satisfies_each said 0 i _ (λ j v w. satisfies_each said 0 (2 ^ n) _ (λ t y z.
      fan_in_met said i c j t (leb j n) (given n t j) (code_at t j (fan_in c (gate_of_node n net i)))))))

  gate_bits_met : Satisfies said (gate_values n r)
  unfolding meaning said_without_counts
  gate_bits_met =
      satisfies_each said (suc n) r _ (λ i a b. satisfies_each said 0 (2 ^ n) _ (λ t y z.
      gate_met said i t (sym (gate_equation bits n net (row_start n t) i false (length-row_start n t) formed a (omega arith)))))

  output_chosen_met : Satisfies said (output_chosen n r)
  unfolding meaning said_without_counts
  output_chosen_met = exactly_one_satisfied said (suc n + r) O (node net.output) (omega (arith, formed.output)) (λ k. refl)

  table_met : (table : ℕ) → Computes n table net → Satisfies said (output_values n table r)
  unfolding meaning said_without_counts
  table_met table h =
      satisfies_each said 0 (suc n + r) _ (λ j v w. satisfies_each said 0 (2 ^ n) _ (λ t y z.
      output_met said j t (leb j n) (given n t j) (bit_at table t) (λ e. sym (code_at t j net.output e) ∙ h t (omega arith))))

  abbrev level_of : ℕ → ℕ
  level_of c = get_or node_levels (node c) 0

  gate_level : (i : ℕ) → n < i → i < suc n + r
      → get_or node_levels i 0 ≡ 1 + max (level_of (gate_of_node n net i).first) (max (level_of (gate_of_node n net i).second) (level_of (gate_of_node n net i).third))
  gate_level i a b =
      gate_equation levels n net (replicate (n + 1) 0) i 0 (length-replicate {A = ℕ} (n + 1) 0) formed a (omega arith)
      ∙ rw (level_at node_levels (gate_of_node n net i).first, level_at node_levels (gate_of_node n net i).second, level_at node_levels (gate_of_node n net i).third) refl

  fan_in_lower : (i c : ℕ) → n < i → i < suc n + r → get_or node_levels (node (fan_in c (gate_of_node n net i))) 0 < get_or node_levels i 0
  fan_in_lower i c a b =
      fan_in_of_three (λ x. get_or node_levels (node x) 0 < get_or node_levels i 0) c (gate_of_node n net i)
      (omega (arith, gate_level i a b)) (omega (arith, gate_level i a b)) (omega (arith, gate_level i a b))

  fan_in_exceeds : (i c j e : ℕ) → n < i → i < suc n + r → eqb (node (fan_in c (gate_of_node n net i))) j ≡ true
      → ltb e (get_or node_levels j 0) ≡ true → ltb (e + 1) (get_or node_levels i 0) ≡ true
  fan_in_exceeds i c j e a b p q =
      let x : get_or node_levels (node (fan_in c (gate_of_node n net i))) 0 ≡ get_or node_levels j 0 = ap (λ y. get_or node_levels y 0) (eqb-true _ j p) in
      lt-ltb (e + 1) (get_or node_levels i 0) (omega (arith, fan_in_lower i c a b, ltb-true e (get_or node_levels j 0) q))

  output_within : (d j : ℕ) → level n net ≤ d → eqb (node net.output) j ≡ true → ltb d (get_or node_levels j 0) ≡ true → ⊥
  output_within d j h p q =
      let x : get_or node_levels (node net.output) 0 ≡ get_or node_levels j 0 = ap (λ y. get_or node_levels y 0) (eqb-true _ j p) in
      omega (arith, level_at node_levels net.output, ltb-true d (get_or node_levels j 0) q)

  levels_met : (d : ℕ) → level n net ≤ d → Satisfies said (levels_limited n d r)
  unfolding meaning said_without_counts Satisfies
  levels_met d h =
      satisfies_both said _ _
      (satisfies_each said (suc n) r _ (λ i a b. (
        one_met (said (H i 0)) (lt-ltb 0 (get_or node_levels i 0) (omega (arith, gate_level i a b))),
        satisfies_each said 1 3 _ (λ c l u. satisfies_each said (suc n) (i - suc n) _ (λ j v w. satisfies_each said 0 d _ (λ e y z.
            (three_met (said (S i c j)) (said (H j e)) (said (H i (e + 1))) (fan_in_exceeds i c j e a b), tt)))),
      )))
      (satisfies_each said (suc n) r _ (λ j a b. (not_both_met (said (O j)) (said (H j d)) (output_within d j h), tt)))

  -- a use of a gate is no variable K
  use_at : (j p : ℕ) → p < length (uses_of n r j) → said (get_or (uses_of n r j) p Q) ≡ said_without_counts n net (get_or (uses_of n r j) p Q)
  unfolding meaning
  use_at j = use_has (λ v. said v ≡ said_without_counts n net v) n r j (λ i c a b l u. refl) refl

  uses_counted : (j : ℕ) → n < j → j < suc n + r → count (said_without_counts n net) (uses_of n r j) ≡ uses j net
  unfolding said_without_counts
  uses_counted j a b =
      count_uses (said_without_counts n net) n r j net sized formed a b (λ i u v l. record { first = refl; second = refl; third = refl }) refl

  module _ (f : ℕ) (some : 1 ≤ f) (within : (j : ℕ) → n < j → j < n + 1 + size net → uses j net ≤ f) (j : ℕ) (low : n < j) (high : j < suc n + r) where
    abbrev us : List Var
    us = uses_of n r j

    abbrev held : ℕ → ℕ
    held p = count (said_without_counts n net) (take p us)

    held_within : (p : ℕ) → held p ≤ f
    held_within p = omega (arith, count-take-le (said_without_counts n net) us p, uses_counted j low high, within j low (omega arith))

    held_more : (k : ℕ) → 1 ≤ k → k ≤ length us → said (get_or us (k - 1) Q) ≡ true → held k ≡ held (k - 1) + 1
    held_more k a l e =
        let q : suc (k - 1) ≡ k = omega arith in
        let x = sym (use_at j (k - 1) (omega arith)) ∙ e in
        let y : held (suc (k - 1)) ≡ held (k - 1) + 1 = rw x at (count_more (said_without_counts n net) us (k - 1) (omega arith)) in
        subst (λ x. held x ≡ held (k - 1) + 1) q y

    held_no_less : (k : ℕ) → 1 ≤ k → k ≤ length us → held (k - 1) ≤ held k
    held_no_less k a l =
        let q : suc (k - 1) ≡ k = omega arith in
        let y : held (k - 1) ≤ held (suc (k - 1)) = omega (arith, count_more (said_without_counts n net) us (k - 1) (omega arith)) in
        subst (λ x. held (k - 1) ≤ held x) q y

    step_met : (k : ℕ) → 1 ≤ k → k ≤ length us → Satisfies said (counter_step f j (get_or us (k - 1) Q) k)
    unfolding meaning Satisfies
    step_met k a l =
        satisfies_both said _ _
        (satisfies_each said 1 f _ (λ q b u. (
          two_met (said (K j (k - 1) q)) (said (K j k q))
              (λ e. le-leb q (held k) (omega (arith, leb-true q (held (k - 1)) e, held_no_less k a l))),
          tt,
        )))
        (satisfies_both said _ _
        (satisfies_each said 1 (f - 1) _ (λ q b u. (
          three_met (said (get_or us (k - 1) Q)) (said (K j (k - 1) q)) (said (K j k (q + 1)))
              (λ e g. le-leb (q + 1) (held k) (omega (arith, held_more k a l e, leb-true q (held (k - 1)) g))),
          tt,
        )))
        (not_both_met (said (get_or us (k - 1) Q)) (said (K j (k - 1) f)) (λ e g. omega (arith, held_within k, held_more k a l e, leb-true f (held (k - 1)) g)), tt))

    counter_met : (k : ℕ) → 1 ≤ k → k ≤ length us → Satisfies said (counter f j (get_or us (k - 1) Q) k)
    unfolding meaning Satisfies
    counter_met k a l = (
      two_met (said (get_or us (k - 1) Q)) (said (K j k 1)) (λ e. le-leb 1 (held k) (omega (arith, held_more k a l e))),
      at (ltb 1 k),
    )
      where
        at : (b : Bool) → Satisfies said (cond b (counter_step f j (get_or us (k - 1) Q) k) [])
        at true = step_met k a l
        at false = tt

    counters_met : (b : Bool) → Satisfies said (cond b (each 1 (length us) (λ k. counter f j (get_or us (k - 1) Q) k)) [])
    unfolding Satisfies
    counters_met true = satisfies_each said 1 (length us) _ (λ k a l. counter_met k a (omega arith))
    counters_met false = tt

  fan_outs_met : (f : ℕ) → 1 ≤ f → ((j : ℕ) → n < j → j < n + 1 + size net → uses j net ≤ f) → Satisfies said (fan_outs_limited n f r)
  fan_outs_met f some within = satisfies_each said (suc n) r _ (λ j a b. counters_met f some within j a b (outnumber n f r j))

-- what the variables say of a network that meets the question satisfies the clauses
pub meaning_satisfies : (q : Question) (r : ℕ) (net : Net) → 1 ≤ q.limits.fan_out → size net ≡ r → Meets q net
    → Satisfies (meaning q.inputs r net) (clauses_of q.inputs q.table q.limits.depth q.limits.fan_out r)
meaning_satisfies q r net some e m =
    let n = q.inputs in
    clauses_from_groups n q.table q.limits.depth q.limits.fan_out r (meaning n r net) (record {
      fan_ins = fan_ins_met n r net e m.formed;
      fan_in_bits = fan_in_bits_met n r net e m.formed;
      gate_bits = gate_bits_met n r net e m.formed;
      output = output_chosen_met n r net e m.formed;
      table_bits = table_met n r net e m.formed q.table m.computes;
      levels = levels_met n r net e m.formed q.limits.depth m.within.level;
      fan_outs = fan_outs_met n r net e m.formed q.limits.fan_out some m.within.fan_outs;
    })
