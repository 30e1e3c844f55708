use Rattle.std.proofs.Common.{◌≡◌, suc, ◌+◌, refl, arith}
use Rattle.mig.specs.Networks.{net_of}
use Rattle.assignment_writer.proofs.Said.{no_gate, next_gate, all_gates}
use Rattle.assignment_writer.proofs.Nodes.{levels_said}
use Rattle.assignment_writer.proofs.writer.AssignmentWriter.put_levels.Goals as goal

pub loop-i-init : goal.loop-i-init
loop-i-init c = no_gate c.args.self.now c.args.inputs (net_of c.args.network.now) _

pub loop-i-preserved : goal.loop-i-preserved
loop-i-preserved c =
    let n = c.args.inputs in
    let k = c.loop-i.i in
    let net = net_of c.args.network.now in
    let numbers : c.from-numbers.result + 1 ≡ suc c.args.depth = omega arith in
    next_gate n k (n + 1 + k) net _ refl c.loop-i.invariant
    (rw (levels_said n (n + 1 + k) (suc c.args.depth) net, ← c.code_level.ensures, ← numbers) c.put_below.ensures)

pub returns : goal.returns
returns c =
    all_gates c.args.inputs c.loop-i.i _ (net_of c.args.network.now) _ (omega arith) c.loop-i.invariant
