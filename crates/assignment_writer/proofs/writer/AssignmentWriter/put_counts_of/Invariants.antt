use Rattle.std.proofs.Common.{◌*◌, ◌≤◌, take}
use Rattle.assignment_writer.specs.Uses.{names_in}
use Rattle.assignment_writer.proofs.Uses.{Counted}
use Rattle.assignment_writer.proofs.writer.AssignmentWriter.put_counts_of.Given as goal

-- the uses by the gates so far are counted, three at most for each
abbrev pub invariant-loop-gate : goal.invariant-loop-gate
invariant-loop-gate l = record {
  few : l.count ≤ 3 * l.gate-index;
  so_far : Counted l.fan_out (names_in l.node (take l.gate-index l.later)) l.initial.self l.count l.self;
}
