use Rattle.std.proofs.Common.{zero-add}
use Rattle.find.proofs.finding.find_with_gates.Goals as goal

pub returns : goal.returns
returns c = rw (c.empty.ensures.question, c.empty.ensures.gates, c.empty.ensures.count, zero-add) at c.extend.ensures
