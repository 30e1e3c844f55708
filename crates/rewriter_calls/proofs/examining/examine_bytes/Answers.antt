use Rattle.std.proofs.Common.{rules}
use Rattle.rewriter_calls.specs.Calls.{asked}
use Rattle.rewriter_calls.proofs.Meeting.{zero_exactly_when_met}
use Rattle.rewriter_calls.proofs.examining.examine_bytes.Goals as goal

pub returns-in-Ok-clause-zero_exactly_when_met : goal.returns-in-Ok-clause-zero_exactly_when_met
returns-in-Ok-clause-zero_exactly_when_met c =
    zero_exactly_when_met (asked c.args.inputs c.args.table c.args.depth c.args.fan_out) c.args.network.now _ (search rules)

pub returns-in-Err-clause-zero_exactly_when_met : goal.returns-in-Err-clause-zero_exactly_when_met
returns-in-Err-clause-zero_exactly_when_met c =
    zero_exactly_when_met (asked c.args.inputs c.args.table c.args.depth c.args.fan_out) c.args.network.now _ (search rules)
