-- Bounds on the clauses, the literals and the variables of a valid question and exactly r gates, at most seven.
use Rattle.std.proofs.Common.{◌≡◌, ℕ, ◌+◌, ◌≤◌, List, [], ◌∷◌, map, length, refl, arith}
use Rattle.std.specs.List.{sum_by}
use Rattle.std.proofs.lemmas.List.{length-map}
use Rattle.std.proofs.lemmas.List.Sums.{sum_by-cons}
use Rattle.mig.specs.declared.question.Question.{Question}
use Rattle.mig.specs.Networks.{greatest}
use Rattle.mig.specs.Questions.{Valid}
use Rattle.mig_laws.proofs.Decisions.{greatest_above}
use Rattle.cnf.specs.Variables.{Var, NamedClause}
use Rattle.cnf.specs.Clauses.{clauses_of}
use Rattle.cnf.specs.Numbers.{total, Clause, numbered, numbered_literal, question_variables, question_number}
use Rattle.symmetry_laws.specs.Symmetry.{symmetry_clauses, exact_clauses, numbered_exact_clauses}
use Rattle.clause_bounds.specs.Sizes.{literal_total}
use Rattle.clause_bounds.proofs.Weights.{both_within, ones}
use Rattle.clause_bounds.proofs.Groups.{weighs, question_weight, question_within}
use Rattle.clause_bounds.proofs.Symmetry.{symmetry_weight, symmetry_within}
use Rattle.clause_bounds.proofs.Variables.{count_variables, variables_within}

-- numbers leave the number of clauses
clauses_kept : (g : Var → ℕ) (cs : List NamedClause) → length (numbered g cs) ≡ length cs
unfolding numbered
clauses_kept g [] = refl
clauses_kept g (c ∷ cs) = omega (arith, clauses_kept g cs)

-- and the number of literals
literals_kept : (g : Var → ℕ) (cs : List NamedClause) → literal_total (numbered g cs) ≡ sum_by (λ (c : NamedClause). length c) cs
unfolding numbered
literals_kept g [] = refl
literals_kept g (c ∷ cs) =
    omega (
      arith,
      sum_by-cons (λ (x : Clause). length x) (map (numbered_literal g) c) (numbered g cs),
      sum_by-cons (λ (x : NamedClause). length x) c cs,
      length-map c (numbered_literal g),
      literals_kept g cs,
    )

-- what clauses that weigh by their length weigh at most, whatever the fan-out limit
abbrev exact_weight : (ℕ → ℕ) → ℕ
exact_weight w = greatest 20 (question_weight w) + symmetry_weight w

-- the clauses of a valid question and at most seven gates weigh no more than this
exact_within : (w : ℕ → ℕ) → ((x y : ℕ) → x ≤ y → w x ≤ w y) → (q : Question) (r : ℕ) → Valid q → r ≤ 7
    → sum_by (weighs w) (exact_clauses q r) ≤ exact_weight w
exact_within w up q r valid few =
    let n = q.inputs in
    let f = q.limits.fan_out in
    let top : question_weight w f ≤ greatest 20 (question_weight w) = greatest_above 20 (question_weight w) f (omega (arith, valid.fan_out)) in
    let x = question_within w up n r valid.inputs few q.table q.limits.depth f valid.depth in
    both_within (weighs w) (clauses_of n q.table q.limits.depth f r) (symmetry_clauses n q.table r) {x = greatest 20 (question_weight w)}
    (omega (arith, x, top)) (symmetry_within w up n r valid.inputs few q.table)

-- how many clauses there are at most
pub few_clauses : (q : Question) (r : ℕ) → Valid q → r ≤ 7 → length (numbered_exact_clauses q r) ≤ 11552
unfolding total greatest
few_clauses q r valid few =
    let bound : exact_weight (λ _. 1) ≡ 11552 = refl in
    let cs = exact_clauses q r in
    omega (arith, exact_within (λ _. 1) (λ x y l. omega arith) q r valid few, bound, ones cs, clauses_kept (question_number q r) cs)

-- how many literals there are at most
pub few_literals : (q : Question) (r : ℕ) → Valid q → r ≤ 7 → literal_total (numbered_exact_clauses q r) ≤ 37960
unfolding total greatest
few_literals q r valid few =
    let bound : exact_weight (λ x. x) ≡ 37960 = refl in
    let cs = exact_clauses q r in
    omega (arith, exact_within (λ x. x) (λ x y l. l) q r valid few, bound, literals_kept (question_number q r) cs)

-- how many variables there are at most
pub few_variables : (q : Question) (r : ℕ) → Valid q → r ≤ 7 → length (question_variables q r) ≤ 1282
unfolding total greatest
few_variables q r valid few =
    let f = q.limits.fan_out in
    let bound : greatest 20 count_variables ≡ 1282 = refl in
    let top : count_variables f ≤ greatest 20 count_variables = greatest_above 20 count_variables f (omega (arith, valid.fan_out)) in
    omega (arith, variables_within q.inputs r valid.inputs few q.limits.depth f valid.depth, bound)
