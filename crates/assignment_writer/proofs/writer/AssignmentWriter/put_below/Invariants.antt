use Rattle.assignment_writer.specs.Writing.{Wrote}
use Rattle.assignment_writer.specs.Said.{below}
use Rattle.assignment_writer.proofs.writer.AssignmentWriter.put_below.Given as goal

abbrev pub invariant-loop-j : goal.invariant-loop-j
invariant-loop-j l = Wrote l.initial.self (below l.j l.number) l.self
