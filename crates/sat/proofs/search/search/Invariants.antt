use Rattle.std.proofs.Common.{length}
use Rattle.sat_laws.specs.Trails.{measure}
use Rattle.sat_laws.specs.Runs.{Running}
use Rattle.sat.proofs.search.search.Given as goal

-- the given clauses lead those held and imply them, and the trail is justified
abbrev pub invariant-loop-l : goal.invariant-loop-l
invariant-loop-l l = Running l.fn.words l.fn.ends l.given l.words l.ends l.clauses l.values l.trail l.kinds l.top

abbrev pub decreases-loop-l : goal.decreases-loop-l
decreases-loop-l l = measure l.fuel l.kinds l.top (length l.fn.values)
