use Rattle.std.proofs.Common.{◌≤◌}
use Rattle.sat_laws.specs.Formulas.{Formula}
use Rattle.sat_laws.specs.Trails.{Consistent, Refuted}
use Rattle.sat_trail.proofs.trail.unwind.Given as goal

-- no decision stands from t on
abbrev pub invariant-loop-t : goal.invariant-loop-t
invariant-loop-t l = record {
  below : l.t ≤ l.top;
  consistent : Consistent l.values l.trail l.kinds l.t;
  refuted : (F : Formula) → Refuted F l.trail l.kinds l.top → Refuted F l.trail l.kinds l.t;
}

abbrev pub decreases-loop-t : goal.decreases-loop-t
decreases-loop-t l = l.t
