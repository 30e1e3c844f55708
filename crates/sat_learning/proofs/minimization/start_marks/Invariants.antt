use Rattle.std.proofs.Common.{ℕ, ◌≤◌, ◌<◌, get_or}
use Rattle.sat_learning.proofs.minimization.start_marks.Given as goal

-- the marks so far are at most 1, and no mark is taken off
abbrev pub invariant-loop-mark : goal.invariant-loop-mark
invariant-loop-mark l = record {
  small : (v : ℕ) → v < l.mark-index → get_or l.marks v 0 ≤ 1;
  marked : (v : ℕ) → 0 < get_or l.initial.marks v 0 → 0 < get_or l.marks v 0;
}
