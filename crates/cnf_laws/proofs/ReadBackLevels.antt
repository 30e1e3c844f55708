-- The level of the read-back of a satisfying assignment is within the depth limit.
use Rattle.std.proofs.Common.{◌≡◌, ℕ, zero, suc, ◌+◌, ◌-◌, ◌<◌, ◌≤◌, max, Bool, true, List, get_or, replicate, refl, ap, ◌∙◌, inl, inr, add-one, arith}
use Rattle.std.proofs.lemmas.Bool.{cases_lt}
use Rattle.std.proofs.lemmas.List.{length-replicate, get_or-replicate}
use Rattle.mig.specs.Networks.{value_at, walk, levels}
use Rattle.mig.specs.Questions.{level}
use Rattle.mig_laws.proofs.Walks.{walk_keeps}
use Rattle.mig_laws.proofs.Nodes.{level_at}
use Rattle.cnf.specs.Variables.{S, N, O, Q, H}
use Rattle.cnf.specs.Meaning.{Assignment, pick, code, read_gates, read_net}
use Rattle.cnf_laws.proofs.Satisfied.{satisfies_left, satisfies_right, satisfies_at, first_holds, satisfies_rest}
use Rattle.cnf_laws.proofs.Literals.{one_says, three_says, not_both_says}
use Rattle.cnf_laws.proofs.Codes.{node-code}
use Rattle.cnf_laws.proofs.Groups.{SatisfiesGroups}
use Rattle.cnf_laws.proofs.ReadBack.{fan_in_picked, output_picked, read_net_formed, read_equation}

module _ (n table d f r : ℕ) (s : Assignment) (h : SatisfiesGroups n table d f r s) where
  abbrev node_levels : List ℕ
  node_levels = walk levels (replicate (n + 1) 0) (read_gates s (suc n) r)

  abbrev picked : ℕ → ℕ → ℕ
  picked i c = pick i (λ j. s (S i c j))

  input_level : (j : ℕ) → j ≤ n → get_or node_levels j 0 ≡ 0
  input_level j l =
      walk_keeps levels (replicate (n + 1) 0) (read_gates s (suc n) r) 0 j (omega (arith, length-replicate {A = ℕ} (n + 1) 0))
      ∙ get_or-replicate (n + 1) j 0 0 (omega arith)

  code_level : (j : ℕ) (x : Bool) → value_at levels node_levels (code j x) ≡ get_or node_levels j 0
  code_level j x = level_at node_levels (code j x) ∙ ap (λ i. get_or node_levels i 0) (node-code j x)

  gate_level : (j : ℕ) → n < j → j < suc n + r
      → get_or node_levels j 0 ≡ 1 + max (get_or node_levels (picked j 1) 0) (max (get_or node_levels (picked j 2) 0) (get_or node_levels (picked j 3) 0))
  gate_level j a b =
      read_equation n r s levels (replicate (n + 1) 0) j 0 (length-replicate {A = ℕ} (n + 1) 0) (read_net_formed n r s h.fan_ins h.output) a b
      ∙ rw (code_level (picked j 1) (s (N j 1)), code_level (picked j 2) (s (N j 2)), code_level (picked j 3) (s (N j 3))) refl

  -- H says so where the level of a gate exceeds e
  exceeds : (e j : ℕ) → e ≤ d → n < j → j < suc n + r → e < get_or node_levels j 0 → s (H j e) ≡ true
  exceeds zero j l a b u = one_says (s (H j 0)) (first_holds s _ _ (satisfies_at s (suc n) r _ (satisfies_left s _ _ h.levels) j a b))
  exceeds (suc e) j l a b u =
      elim (cases_lt e (get_or node_levels (picked j 1) 0)) [
        | inl x ↦ step 1 (omega arith) (omega arith) x (λ i v w z. exceeds e i (omega arith) v w z)
        | inr x ↦
            elim (cases_lt e (get_or node_levels (picked j 2) 0)) [
              | inl y ↦ step 2 (omega arith) (omega arith) y (λ i v w z. exceeds e i (omega arith) v w z)
              | inr y ↦ step 3 (omega arith) (omega arith) (omega (arith, gate_level j a b)) (λ i v w z. exceeds e i (omega arith) v w z)
            ]
      ]
    where
      step : (c : ℕ) → 1 ≤ c → c < 4 → e < get_or node_levels (picked j c) 0
          → ((i : ℕ) → n < i → i < suc n + r → e < get_or node_levels i 0 → s (H i e) ≡ true) → s (H j (suc e)) ≡ true
      step c lc uc x ih =
          let w = fan_in_picked n r s h.fan_ins j c a b lc uc in
          let g : n < picked j c =
          elim (cases_lt n (picked j c)) [
            | inl y ↦ y
            | inr y ↦ absurd (omega (arith, input_level (picked j c) y))
          ] in
          let z : s (H j (e + 1)) ≡ true =
          three_says (s (S j c (picked j c))) (s (H (picked j c) e)) (s (H j (e + 1)))
          (first_holds s _ _ (satisfies_at s 0 d _ (satisfies_at s (suc n) (j - suc n) _ (satisfies_at s 1 3 _
          (satisfies_rest s _ _ (satisfies_at s (suc n) r _ (satisfies_left s _ _ h.levels) j a b))
          c lc (omega arith)) (picked j c) g (omega (arith, w.below))) e (omega arith) (omega arith)))
          w.passes (ih (picked j c) g (omega (arith, w.below)) x) in
          rw add-one at z

  abbrev out : ℕ
  out = pick (suc n + r) (λ j. s (O j))

  output_not_deep : d < get_or node_levels out 0 → ⊥
  output_not_deep e =
      let w = output_picked n r s h.output in
      elim (cases_lt n out) [
        | inl g ↦
            not_both_says (s (O out)) (s (H out d)) (first_holds s _ _ (satisfies_at s (suc n) r _ (satisfies_right s _ _ h.levels) out g w.below)) w.passes
            (exceeds d out (omega arith) g w.below e)
        | inr g ↦ omega (arith, input_level out g)
      ]

  pub read_net_level : level n (read_net n r s) ≤ d
  read_net_level =
      rw (code_level out (s Q))
      (elim (cases_lt d (get_or node_levels out 0)) [
        | inl e ↦ absurd (output_not_deep e)
        | inr e ↦ e
      ])
