use Rattle.std.proofs.Common.{◌+◌, refl, arith}
use Rattle.mig.specs.Networks.{net_of}
use Rattle.assignment_writer.proofs.Said.{no_gate, next_gate, all_gates}
use Rattle.assignment_writer.proofs.Nodes.{shifted, gate_values_said}
use Rattle.assignment_writer.proofs.writer.AssignmentWriter.put_gate_values.Goals as goal

pub loop-i-init : goal.loop-i-init
loop-i-init c = no_gate c.args.self.now c.args.inputs (net_of c.args.network.now) _

pub loop-i-preserved : goal.loop-i-preserved
loop-i-preserved c =
    let n = c.args.inputs in
    let k = c.loop-i.i in
    let net = net_of c.args.network.now in
    next_gate n k (n + 1 + k) net _ refl c.loop-i.invariant
    (rw (gate_values_said n (n + 1 + k) net, ← c.code_rows.ensures, ← shifted n c.requires.inputs) c.put_bits.ensures)

pub returns : goal.returns
returns c =
    all_gates c.args.inputs c.loop-i.i _ (net_of c.args.network.now) _ (omega arith) c.loop-i.invariant
