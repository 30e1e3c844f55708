use Rattle.std.proofs.Common.{◌∷◌, []}
use Rattle.mig.specs.Networks.{net_of}
use Rattle.cnf.specs.Variables.{B, each_row, each_gate}
use Rattle.assignment_writer.specs.Writing.{Wrote}
use Rattle.assignment_writer.specs.Said.{said}
use Rattle.assignment_writer.proofs.writer.AssignmentWriter.put_gate_values.Given as goal

-- the variables of the gates so far
abbrev pub invariant-loop-i : goal.invariant-loop-i
invariant-loop-i l =
    Wrote l.initial.self (said l.inputs (net_of l.network) (each_gate l.inputs l.i (λ i. each_row l.inputs (λ t. B i t ∷ [])))) l.self
