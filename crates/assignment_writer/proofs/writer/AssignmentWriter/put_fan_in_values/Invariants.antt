use Rattle.std.proofs.Common.{◌∷◌, []}
use Rattle.mig.specs.Networks.{net_of}
use Rattle.cnf.specs.Variables.{A, each_fan_in, each_row, each_gate}
use Rattle.assignment_writer.specs.Writing.{Wrote}
use Rattle.assignment_writer.specs.Said.{said}
use Rattle.assignment_writer.proofs.writer.AssignmentWriter.put_fan_in_values.Given as goal

-- the variables of the gates so far
abbrev pub invariant-loop-gate : goal.invariant-loop-gate
invariant-loop-gate l =
    Wrote l.initial.self
    (said l.inputs (net_of l.network)
    (each_gate l.inputs l.gate-index (λ i. each_fan_in (λ c. each_row l.inputs (λ t. A i c t ∷ []))))) l.self
