use Rattle.std.proofs.Common.{arith}
use Rattle.enumeration_laws.proofs.Extended.{prefix_cleared}
use Rattle.enumeration_laws.proofs.Places.{gate_written}
use Rattle.find.proofs.next_gate.NextGate.with_output.Goals as goal

pub returns : goal.returns
returns c =
    let next = c.args.self.now in
    let prefix = next.prefix.now in
    rw c.from.ensures (gate_written prefix.network next.gate c.args.output (omega arith)
    (prefix_cleared prefix.is_prefix))
