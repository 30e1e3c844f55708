use Rattle.mig.specs.Networks.{net_of}
use Rattle.assignment_writer.proofs.Whole.{all_kinds}
use Rattle.assignment_writer.proofs.writer.AssignmentWriter.put_network.Goals as goal

pub returns : goal.returns
returns c =
    let q = c.args.question.now in
    all_kinds q.inputs q.limits.depth q.limits.fan_out (net_of c.args.network.now) c.put_nodes.ensures
    (c.put_complements.ensures q.inputs) c.put_fan_in_values.ensures c.put_gate_values.ensures c.put_output.ensures
    c.put_levels.ensures c.put_counts.ensures
