use Rattle.std.proofs.Common.{length, sym, ap₂, subst, ◌∙◌, arith}
use Rattle.cnf.specs.Numbers.{question_variables, question_clauses}
use Rattle.cnf.specs.Text.{clauses_text, head_text}
use Rattle.clause_text.specs.Writing.{Writes}
use Rattle.std.proofs.lemmas.Result.{IfOk-weaker}
use Rattle.cnf_laws.proofs.Numbering.{numbered_in_order}
use Rattle.cnf_laws.proofs.Numbered.{satisfiable_exactly_when_met, literals_name_variables}
use Rattle.clause_text.proofs.Bounds.{within_bounds}
use Rattle.clause_text.proofs.Texts.{text_written, text_answered}
use Rattle.clause_text.proofs.text.clause_text.Goals as goal

pub returns : goal.returns
returns c =
    let q = c.args.question.now in
    let r = c.args.gates in
    let before = c.args.buffer.now in
    let known = c.in_ok-size.ensures in
    let passed = sym known.refused_by_the_rule in
    let head = subst (λ line. Writes line before 0 c.write_head-place.new.buffer c.write_head-place.result)
    (ap₂ head_text known.variables known.clauses) c.write_head-place.ensures in
    let w = text_written (head_text (length (question_variables q r)) (length (question_clauses q r))) (clauses_text (question_clauses q r)) before
    c.write_head-place.new.buffer c.write_clauses.new.buffer c.write_head-place.result c.write_clauses.result
    (omega (arith, known.bytes)) head (c.write_clauses.ensures.refused_by_the_rule ∙ passed) c.write_clauses.ensures.written in
    let a = text_answered q r before c.write_clauses.new.buffer c.write_clauses.result passed w in
    record {
      answer = a.0;
      bytes_are_the_text_and_those_behind_stay = a.1;
      satisfiable_exactly_when_met = IfOk-weaker c.write_clauses.result _ _ (λ _ _. satisfiable_exactly_when_met q r (within_bounds q r passed).0.some_fan_out) c.write_clauses.ensures.written;
      variables_numbered_in_order = numbered_in_order q r;
      literals_name_variables = IfOk-weaker c.write_clauses.result _ _ (λ _ _. literals_name_variables q r (within_bounds q r passed).0.some_fan_out) c.write_clauses.ensures.written;
    }
