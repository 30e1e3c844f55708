use Rattle.std.proofs.Common.{◌+◌, length, ap, refl, arith}
use Rattle.mig.specs.Networks.{net_of}
use Rattle.assignment_writer.proofs.Said.{no_gate, next_gate, all_gates, complements_of_gate, gate_at_node}
use Rattle.assignment_writer.proofs.writer.AssignmentWriter.put_complements.Goals as goal

pub loop-gate-init : goal.loop-gate-init
loop-gate-init c = λ n. no_gate c.args.self.now n (net_of c.args.network.now) _

pub loop-gate-preserved : goal.loop-gate-preserved
loop-gate-preserved c = λ n.
    let k = c.loop-gate.gate-index in
    let net = net_of c.args.network.now in
    next_gate n k (n + 1 + k) net _ refl (c.loop-gate.invariant n)
    (complements_of_gate n (n + 1 + k) net _ (gate_at_node n k (n + 1 + k) net c.gates-gates.result.now c.gates-gates.ensures.gates refl)
    c.put.ensures c.put-in-loop-gate.ensures c.put-in-loop-gate-2.ensures)

pub returns : goal.returns
returns c = λ n.
    all_gates n c.loop-gate.gate-index _ (net_of c.args.network.now) _ (omega (arith, ap length c.gates-gates.ensures.gates)) (c.loop-gate.invariant n)
