use Rattle.std.proofs.Common.{◌≡◌, ℕ, ap, ◌∙◌, subst}
use Rattle.mig.specs.declared.question.Question.{Question}
use Rattle.cnf.specs.Clauses.{clauses_of}
use Rattle.cnf.specs.Numbers.{number, numbered, question_clauses}
use Rattle.clauses.specs.declared.numbering.Numbering.{Numbering}
use Rattle.clauses.specs.Numbering.{numbered_by}
use Rattle.clauses.proofs.Takings.{took_both}
use Rattle.clauses.proofs.generator.generate.Goals as goal

-- the clauses by the numbers of a numbering of the question
of_the_question : (e : Numbering) (q : Question) (r : ℕ)
    → (e.inputs ≡ q.inputs) × (e.gates ≡ r) × (e.depth ≡ q.limits.depth) × (e.fan_out ≡ q.limits.fan_out)
    → numbered (numbered_by e) (clauses_of e.inputs q.table e.depth e.fan_out e.gates) ≡ question_clauses q r
of_the_question e q r h =
    let f : ℕ → ℕ → ℕ → ℕ → _ = λ n d o k. numbered (number n d o k) (clauses_of n q.table d o k) in
    ap (λ n. f n e.depth e.fan_out e.gates) h.0
    ∙ ap (λ k. f q.inputs e.depth e.fan_out k) h.1
    ∙ ap (λ d. f q.inputs d e.fan_out r) h.2
    ∙ ap (λ o. f q.inputs q.limits.depth o r) h.3

pub returns-clause-takes_the_clauses_in_order : goal.returns-clause-takes_the_clauses_in_order
unfolding clauses_of
returns-clause-takes_the_clauses_in_order g c =
    let e = c.in_ok-numbering.numbering in
    let more = took_both g.S.ClauseSink.took (numbered_by e) g.met.S.ClauseSink.took_more in
    subst (λ cs. g.S.ClauseSink.took c.args.sink.now cs c.fan_outs_limited.new.sink)
    (of_the_question e c.args.question.now c.args.gates c.in_ok-numbering.ensures.of_the_question)
    (more _ _ _ _ _ c.fan_ins_chosen.ensures
    (more _ _ _ _ _ c.fan_in_values.ensures
    (more _ _ _ _ _ c.gate_values.ensures
    (more _ _ _ _ _ c.output_chosen.ensures
    (more _ _ _ _ _ c.output_values.ensures
    (more _ _ _ _ _ c.levels_limited.ensures c.fan_outs_limited.ensures))))))
