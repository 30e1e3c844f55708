use Rattle.std.proofs.Common.{◌+◌, length, ap, arith}
use Rattle.mig.specs.Networks.{net_of}
use Rattle.assignment_writer.proofs.Said.{no_gate, next_gate, all_gates, nodes_of_gate, gate_at_node}
use Rattle.assignment_writer.proofs.writer.AssignmentWriter.put_nodes.Goals as goal

pub loop-i-init : goal.loop-i-init
loop-i-init c = no_gate c.args.self.now c.args.inputs (net_of c.args.network.now) _

pub loop-i-preserved : goal.loop-i-preserved
loop-i-preserved c =
    let n = c.args.inputs in
    let k = c.loop-i.i in
    let net = net_of c.args.network.now in
    let i = c.from.result + 1 + k in
    let gate = gate_at_node n k i net c.gates-gates.result.now c.gates-gates.ensures.gates (omega arith) in
    next_gate n k i net _ (omega arith) c.loop-i.invariant
    (nodes_of_gate n i net _ gate
    c.put_one_of.ensures c.put_one_of-in-loop-i.ensures c.put_one_of-in-loop-i-2.ensures)

pub returns : goal.returns
returns c =
    all_gates c.args.inputs c.loop-i.i _ (net_of c.args.network.now) _ (omega (arith, ap length c.gates-gates.ensures.gates)) c.loop-i.invariant
