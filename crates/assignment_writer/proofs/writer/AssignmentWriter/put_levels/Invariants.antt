use Rattle.std.proofs.Common.{suc, ◌∷◌, []}
use Rattle.mig.specs.Networks.{net_of}
use Rattle.cnf.specs.Variables.{H, each, each_gate}
use Rattle.assignment_writer.specs.Writing.{Wrote}
use Rattle.assignment_writer.specs.Said.{said}
use Rattle.assignment_writer.proofs.writer.AssignmentWriter.put_levels.Given as goal

-- the variables of the gates so far
abbrev pub invariant-loop-i : goal.invariant-loop-i
invariant-loop-i l =
    Wrote l.initial.self (said l.inputs (net_of l.network) (each_gate l.inputs l.i (λ i. each 0 (suc l.depth) (λ e. H i e ∷ [])))) l.self
