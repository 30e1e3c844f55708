use Rattle.std.proofs.Common.{ℕ, ◌+◌, ◌<◌, get_or, List, length, refl, ap, arith}
use Rattle.mig.specs.declared.network.Gate.{Gate}
use Rattle.mig.specs.Networks.{GateBelow, net_of, size, empty_gate}
use Rattle.assignment_writer.proofs.Said.{no_gate, next_gate, all_gates, gate_at_node}
use Rattle.assignment_writer.proofs.Nodes.{shifted, fan_ins_are_nodes, values_of_gate}
use Rattle.assignment_writer.proofs.writer.AssignmentWriter.put_fan_in_values.Goals as goal
use Rattle.assignment_writer.proofs.writer.AssignmentWriter.put_fan_in_values.Goals.{After-gates-gates}

-- the fan-ins of the next gate are nodes
nodes : (c : After-gates-gates) (k : ℕ) → k < length c.gates-gates.result.now
    → GateBelow (c.args.inputs + 1 + size (net_of c.args.network.now)) (get_or c.gates-gates.result.now k empty_gate)
nodes c k l = fan_ins_are_nodes c.args.inputs k (net_of c.args.network.now) c.gates-gates.result.now c.requires.formed c.gates-gates.ensures.gates l

pub code_rows-requires-clause-of_a_node : goal.code_rows-requires-clause-of_a_node
code_rows-requires-clause-of_a_node c =
    (nodes (goal.at.code_rows-requires-clause-of_a_node c).After-gates-gates c.loop-gate.gate-index c.loop-gate-test.true).0

pub code_rows-requires-in-loop-gate-clause-of_a_node : goal.code_rows-requires-in-loop-gate-clause-of_a_node
code_rows-requires-in-loop-gate-clause-of_a_node c =
    (nodes (goal.at.code_rows-requires-in-loop-gate-clause-of_a_node c).After-gates-gates c.loop-gate.gate-index c.loop-gate-test.true).1

pub code_rows-requires-in-loop-gate-2-clause-of_a_node : goal.code_rows-requires-in-loop-gate-2-clause-of_a_node
code_rows-requires-in-loop-gate-2-clause-of_a_node c =
    (nodes (goal.at.code_rows-requires-in-loop-gate-2-clause-of_a_node c).After-gates-gates c.loop-gate.gate-index c.loop-gate-test.true).2

pub loop-gate-init : goal.loop-gate-init
loop-gate-init c = no_gate c.args.self.now c.args.inputs (net_of c.args.network.now) _

pub loop-gate-preserved : goal.loop-gate-preserved
loop-gate-preserved c =
    let n = c.args.inputs in
    let k = c.loop-gate.gate-index in
    let net = net_of c.args.network.now in
    let rows = shifted n c.requires.inputs in
    next_gate n k (n + 1 + k) net _ refl c.loop-gate.invariant
    (values_of_gate n (n + 1 + k) net _ (gate_at_node n k (n + 1 + k) net c.gates-gates.result.now c.gates-gates.ensures.gates refl)
    (rw rows c.code_rows.ensures) (rw rows c.code_rows-in-loop-gate.ensures) (rw rows c.code_rows-in-loop-gate-2.ensures)
    c.put_bits.ensures c.put_bits-in-loop-gate.ensures c.put_bits-in-loop-gate-2.ensures)

pub returns : goal.returns
returns c =
    all_gates c.args.inputs c.loop-gate.gate-index _ (net_of c.args.network.now) _ (omega (arith, ap (λ (gs : List Gate). length gs) c.gates-gates.ensures.gates)) c.loop-gate.invariant
