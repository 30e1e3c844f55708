use Rattle.std.proofs.Common.{◌≡◌, ℕ, ◌<◌, get_or}
use Rattle.sat_laws.specs.Formulas.{Formula}
use Rattle.sat_laws.specs.Trails.{Justified}
use Rattle.sat_laws.specs.Steps.{FollowFromKept}
use Rattle.sat_learning.proofs.minimization.mark_undecided.Given as goal

-- no decision stands so far, and the variables that are implied follow from those kept, if they did at first
abbrev pub invariant-loop-i : goal.invariant-loop-i
invariant-loop-i l = record {
  forced : (j : ℕ) → j < l.i → get_or l.kinds j 0 ≡ 1 → ⊥;
  follow : (F : Formula) → Justified F l.trail l.kinds l.top → FollowFromKept F l.values l.initial.marks → FollowFromKept F l.values l.marks;
  marked : (v : ℕ) → 0 < get_or l.initial.marks v 0 → 0 < get_or l.marks v 0;
}
