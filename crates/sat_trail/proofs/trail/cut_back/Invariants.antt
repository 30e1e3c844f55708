use Rattle.std.proofs.Common.{◌-◌, ◌≤◌}
use Rattle.sat_laws.specs.Trails.{Consistent}
use Rattle.sat_trail.proofs.trail.cut_back.Given as goal

-- values and trail belong together
abbrev pub invariant-loop-t : goal.invariant-loop-t
invariant-loop-t l = record { above : l.to ≤ l.t; consistent : Consistent l.values l.trail l.kinds l.t }

abbrev pub decreases-loop-t : goal.decreases-loop-t
decreases-loop-t l = l.t - l.to
