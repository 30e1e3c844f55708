use Rattle.std.proofs.Common.{ℕ, ◌∷◌, []}
use Rattle.mig.specs.Networks.{net_of}
use Rattle.cnf.specs.Variables.{N, each_gate, each_fan_in}
use Rattle.assignment_writer.specs.Writing.{Wrote}
use Rattle.assignment_writer.specs.Said.{said}
use Rattle.assignment_writer.proofs.writer.AssignmentWriter.put_complements.Given as goal

-- the variables of the gates so far
abbrev pub invariant-loop-gate : goal.invariant-loop-gate
invariant-loop-gate l =
    (n : ℕ) → Wrote l.initial.self (said n (net_of l.network) (each_gate n l.gate-index (λ i. each_fan_in (λ c. N i c ∷ [])))) l.self
