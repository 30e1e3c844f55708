use Rattle.std.proofs.Common.{cond, ◌∷◌, [], length}
use Rattle.mig.specs.Networks.{net_of, size}
use Rattle.cnf.specs.Variables.{K, each, each_gate, uses_of, outnumber}
use Rattle.assignment_writer.specs.Writing.{Wrote}
use Rattle.assignment_writer.specs.Said.{said}
use Rattle.assignment_writer.proofs.writer.AssignmentWriter.put_counts.Given as goal

-- the variables of the gates so far
abbrev pub invariant-loop-i : goal.invariant-loop-i
invariant-loop-i l =
    Wrote l.initial.self
    (said l.inputs (net_of l.network)
    (each_gate l.inputs l.i (λ j. cond (outnumber l.inputs l.fan_out (size (net_of l.network)) j)
    (each 1 (length (uses_of l.inputs (size (net_of l.network)) j)) (λ k. each 1 l.fan_out (λ q. K j k q ∷ []))) []))) l.self
