use Rattle.std.proofs.Common.{◌≡◌, ◌≢◌, ℕ, ◌≤◌, ◌<◌, get_or}
use Rattle.sat_learning.proofs.minimization.settle_marks.Given as goal

-- no mark is taken off but those of variables that are implied, and the marks from here on are as they were
abbrev pub invariant-loop-mark : goal.invariant-loop-mark
invariant-loop-mark l = record {
  kept : (v : ℕ) → 0 < get_or l.initial.marks v 0 → get_or l.initial.marks v 0 ≢ 2 → 0 < get_or l.marks v 0;
  rest : (v : ℕ) → l.mark-index ≤ v → get_or l.marks v 0 ≡ get_or l.initial.marks v 0;
}
