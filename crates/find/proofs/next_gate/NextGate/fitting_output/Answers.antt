use Rattle.std.proofs.Common.{sym, arith}
use Rattle.enumeration_laws.specs.Placed.{placed}
use Rattle.enumeration_laws.proofs.Extended.{placed_count}
use Rattle.enumeration_laws.proofs.Fits.{none_fits}
use Rattle.enumeration_laws.proofs.Ended.{fit_answers}
use Rattle.find.proofs.next_gate.NextGate.fitting_output.Goals as goal

pub returns-in_err-output : goal.returns-in_err-output
returns-in_err-output c =
    let next = c.args.self.now in
    let prefix = next.prefix.now in
    let long = placed_count prefix.is_prefix in
    rw c.from_residual.ensures
    (none_fits prefix.asked.question (placed prefix.network) next.gate _ next.column prefix.asked.valid
    (omega arith) next.column_of_gate (sym (rw c.node.ensures at c.in_err-output.ensures)))

pub returns : goal.returns
returns c =
    let next = c.args.self.now in
    let prefix = next.prefix.now in
    let long = placed_count prefix.is_prefix in
    rw c.then_some.ensures
    (fit_answers prefix.asked.question (placed prefix.network) next.gate _ next.column prefix.asked.valid
    (omega arith) next.column_of_gate
    c.with_output.result c.in_ok-output.output (sym c.in_ok-output.ensures)
    (omega arith) c.with_output.ensures c.within_limits.result c.within_limits.ensures)
