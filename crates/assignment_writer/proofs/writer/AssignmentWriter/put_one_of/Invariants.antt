use Rattle.assignment_writer.specs.Writing.{Wrote}
use Rattle.assignment_writer.specs.Said.{one_of}
use Rattle.assignment_writer.proofs.writer.AssignmentWriter.put_one_of.Given as goal

abbrev pub invariant-loop-j : goal.invariant-loop-j
invariant-loop-j l = Wrote l.initial.self (one_of l.j l.number) l.self
