use Rattle.std.proofs.Common.{◌≡◌, ◌/◌, ◌^◌}
use Rattle.assignment_writer.specs.Writing.{Wrote}
use Rattle.assignment_writer.specs.Said.{first_bits}
use Rattle.assignment_writer.proofs.writer.AssignmentWriter.put_bits.Given as goal

abbrev pub invariant-loop-t : goal.invariant-loop-t
invariant-loop-t l = record {
  written : Wrote l.initial.self (first_bits l._t l.number) l.self;
  left : l.left ≡ l.number / 2 ^ l._t;
}
