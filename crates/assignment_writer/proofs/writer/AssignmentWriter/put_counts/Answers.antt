use Rattle.std.proofs.Common.{◌+◌, ◌-◌, length, take, drop, refl, arith}
use Rattle.mig.specs.Networks.{net_of}
use Rattle.assignment_writer.proofs.Said.{no_gate, next_gate, all_gates}
use Rattle.assignment_writer.proofs.Uses.{gates_behind, counters_written, counters_left_out}
use Rattle.assignment_writer.proofs.writer.AssignmentWriter.put_counts.Goals as goal
use Rattle.assignment_writer.proofs.writer.AssignmentWriter.put_counts.Goals.{then-from-later, else-from-later}

pub loop-i-init : goal.loop-i-init
loop-i-init c = no_gate c.args.self.now c.args.inputs (net_of c.args.network.now) _

pub loop-i-preserved : goal.loop-i-preserved
loop-i-preserved c =
    let n = c.args.inputs in
    let k = c.loop-i.i in
    let net = net_of c.args.network.now in
    let gates = c.gates-gates.result.now in
    let later = take (length gates - (c.from.result + 1)) (drop (c.from.result + 1) gates) in
    let behind = gates_behind gates net.gates k c.from.result c.gates-gates.ensures.gates c.from.ensures in
    next_gate n k (n + 1 + k) net _ refl c.loop-i.invariant
    (elim c.if-from-later.branch [
      | then-from-later w ↦
          rw w.self-is
          (counters_written n c.args.fan_out (n + 1 + k) k net later refl (omega arith) behind (omega arith) w.put_counts_of.ensures)
      | else-from-later w ↦
          rw w.self-is
          (counters_left_out c.loop-i.self n c.args.fan_out (n + 1 + k) k net later refl (omega arith) behind (omega arith))
    ])

pub returns : goal.returns
returns c =
    all_gates c.args.inputs c.loop-i.i _ (net_of c.args.network.now) _ (omega arith) c.loop-i.invariant
