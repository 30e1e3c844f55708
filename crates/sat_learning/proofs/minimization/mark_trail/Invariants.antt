use Rattle.std.proofs.Common.{ℕ, ◌<◌, get_or}
use Rattle.sat_laws.specs.Formulas.{Formula, Implied}
use Rattle.sat_laws.specs.Steps.{FollowFromKept}
use Rattle.sat_learning.proofs.minimization.mark_trail.Given as goal

-- the variables that are implied follow from those kept, if they did at first
abbrev pub invariant-loop-i : goal.invariant-loop-i
invariant-loop-i l = record {
  follow : (F : Formula) → Implied F l.words l.ends l.clauses → FollowFromKept F l.values l.initial.marks → FollowFromKept F l.values l.marks;
  marked : (v : ℕ) → 0 < get_or l.initial.marks v 0 → 0 < get_or l.marks v 0;
}
