use Rattle.std.proofs.Common.{sym, arith, rules}
use Rattle.enumeration_laws.specs.Prefixes.{without_gates}
use Rattle.enumeration_laws.proofs.WithoutGates.{meets_without_gates, none_without_gates}
use Rattle.enumeration_laws.proofs.Found.{holds_written}
use Rattle.find.proofs.finding.find_without_gates.Goals as goal

pub returns-in_err-code : goal.returns-in_err-code
returns-in_err-code c =
    let asked = c.args.asked in
    let columns = c.start_columns-columns.result in
    rw c.from_residual.ensures
    (none_without_gates asked.question columns asked.valid (c.start_columns-columns.ensures asked.question.inputs
    asked.valid.inputs) (search rules)
    (sym (rw c.from.ensures at c.in_err-code.ensures)))

pub returns : goal.returns
returns c =
    let asked = c.args.asked in
    let code = c.in_ok-code.code in
    holds_written asked.question 0 c.without_gates.result (without_gates code) c.without_gates.ensures (omega arith)
    (meets_without_gates asked.question c.start_columns-columns.result code asked.valid
    (c.start_columns-columns.ensures asked.question.inputs asked.valid.inputs)
    (sym (rw c.from.ensures at c.in_ok-code.ensures)))
