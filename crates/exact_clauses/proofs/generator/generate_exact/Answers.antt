use Rattle.std.proofs.Common.{◌≡◌, ℕ, ap, ◌∙◌, subst}
use Rattle.mig.specs.declared.question.Question.{Question}
use Rattle.cnf.specs.Clauses.{clauses_of}
use Rattle.cnf.specs.Numbers.{number, numbered, question_number}
use Rattle.symmetry_laws.specs.Symmetry.{symmetry_clauses}
use Rattle.clauses.specs.declared.numbering.Numbering.{Numbering}
use Rattle.clauses.specs.Numbering.{numbered_by}
use Rattle.clauses.proofs.Takings.{took_both}
use Rattle.exact_clauses.proofs.generator.generate_exact.Goals as goal

-- the symmetry clauses of a table by the numbers of a numbering of the question
of_the_question : (e : Numbering) (q : Question) (r : ℕ)
    → (e.inputs ≡ q.inputs) × (e.gates ≡ r) × (e.depth ≡ q.limits.depth) × (e.fan_out ≡ q.limits.fan_out)
    → numbered (numbered_by e) (symmetry_clauses e.inputs q.table e.gates) ≡ numbered (question_number q r) (symmetry_clauses q.inputs q.table r)
of_the_question e q r h =
    let f : ℕ → ℕ → ℕ → ℕ → _ = λ n d o k. numbered (number n d o k) (symmetry_clauses n q.table k) in
    ap (λ n. f n e.depth e.fan_out e.gates) h.0
    ∙ ap (λ k. f q.inputs e.depth e.fan_out k) h.1
    ∙ ap (λ d. f q.inputs d e.fan_out r) h.2
    ∙ ap (λ o. f q.inputs q.limits.depth o r) h.3

pub returns-clause-takes_the_clauses_in_order : goal.returns-clause-takes_the_clauses_in_order
unfolding symmetry_clauses
returns-clause-takes_the_clauses_in_order g c =
    let e = c.in_ok-numbering.numbering in
    let q = c.args.question.now in
    let r = c.args.gates in
    let more = took_both g.S.ClauseSink.took (numbered_by e) g.met.S.ClauseSink.took_more in
    let symmetry : g.S.ClauseSink.took c.generate.new.sink (numbered (question_number q r) (symmetry_clauses q.inputs q.table r)) c.inputs_ordered.new.sink =
    subst (λ cs. g.S.ClauseSink.took c.generate.new.sink cs c.inputs_ordered.new.sink)
    (of_the_question e q r c.in_ok-numbering.ensures.of_the_question)
    (more _ _ _ _ _ c.complements_once.ensures
    (more _ _ _ _ _ c.fan_ins_rise.ensures
    (more _ _ _ _ _ c.buffers_copy_gates.ensures
    (more _ _ _ _ _ c.output_last.ensures
    (more _ _ _ _ _ c.gates_named.ensures
    (more _ _ _ _ _ c.first_row_zero.ensures
    (more _ _ _ _ _ c.neighbours_ordered.ensures c.inputs_ordered.ensures))))))) in
    took_both g.S.ClauseSink.took (question_number q r) g.met.S.ClauseSink.took_more
    (clauses_of q.inputs q.table q.limits.depth q.limits.fan_out r) (symmetry_clauses q.inputs q.table r) _ _ _ c.in_ok-generate.ensures.takes_the_clauses_in_order symmetry
