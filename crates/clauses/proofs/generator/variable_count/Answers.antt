use Rattle.std.proofs.Common.{◌≡◌, ℕ, suc, ◌+◌, ◌-◌, length, Ok, None, sym, ap, ◌∙◌, arith}
use Rattle.mig.specs.declared.question.Question.{Question}
use Rattle.mig.specs.Rules.{unless_refused}
use Rattle.cnf.specs.Numbers.{first_K, total, counters, behind_all, question_variables}
use Rattle.cnf.specs.Rules.{clauses_refusal}
use Rattle.cnf_laws.proofs.Numbering.{variables_counted}
use Rattle.clauses.specs.declared.numbering.Numbering.{Numbering}
use Rattle.clauses.proofs.generator.variable_count.Goals as goal

-- one more than the number of the last variable, by the numbers of a numbering of the question
behind : (e : Numbering) (q : Question) (r x : ℕ)
    → (e.inputs ≡ q.inputs) × (e.gates ≡ r) × (e.depth ≡ q.limits.depth) × (e.fan_out ≡ q.limits.fan_out)
    → x ≡ first_K e.inputs e.depth e.gates + total (suc e.inputs) (e.inputs + 1 + e.gates - suc e.inputs) (counters e.inputs e.fan_out e.gates)
    → x ≡ 1 + length (question_variables q r)
behind e q r x h p =
    let m : e.inputs + 1 + e.gates - suc e.inputs ≡ e.gates = omega arith in
    p ∙ ap (λ (k : ℕ). first_K e.inputs e.depth e.gates + total (suc e.inputs) k (counters e.inputs e.fan_out e.gates)) m
    ∙ ap (λ n. behind_all n e.depth e.fan_out e.gates) h.0
    ∙ ap (λ k. behind_all q.inputs e.depth e.fan_out k) h.1
    ∙ ap (λ d. behind_all q.inputs d e.fan_out r) h.2
    ∙ ap (λ o. behind_all q.inputs q.limits.depth o r) h.3
    ∙ sym (variables_counted q r)

pub returns : goal.returns
returns c =
    let q = c.args.question.now in
    let r = c.args.gates in
    let none : None ≡ clauses_refusal q r = c.in_ok-numbering.ensures.refused_by_the_rule in
    let last : c.first_counter-behind.result - 1 ≡ length (question_variables q r) = omega (
      arith,
      behind c.in_ok-numbering.numbering q r c.first_counter-behind.result c.in_ok-numbering.ensures.of_the_question c.first_counter-behind.ensures.number,
    ) in
    ap (λ x. Ok x) last ∙ ap (λ o. unless_refused o (length (question_variables q r))) none
