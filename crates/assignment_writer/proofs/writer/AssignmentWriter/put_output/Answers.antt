use Rattle.std.proofs.Common.{◌≡◌, ◌+◌, suc, length, ap, arith}
use Rattle.mig.specs.Networks.{net_of, size}
use Rattle.assignment_writer.proofs.Said.{output_of}
use Rattle.assignment_writer.proofs.writer.AssignmentWriter.put_output.Goals as goal

pub returns : goal.returns
returns c =
    let n = c.args.inputs in
    let net = net_of c.args.network.now in
    let m : c.from.result + 1 + length c.gates.result.now ≡ suc n + size net = omega (arith, ap length c.gates.ensures.gates) in
    output_of n (suc n + size net) net (rw (← m) c.put_one_of.ensures) c.put.ensures
