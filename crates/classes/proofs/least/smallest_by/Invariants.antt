use Rattle.std.proofs.Common.{◌≡◌, ℕ, ◌<◌, ◌≤◌, Bool}
use Rattle.class_laws.specs.Ways.{carry_table}
use Rattle.classes.specs.Reach.{by}
use Rattle.classes.proofs.least.smallest_by.Given as goal

abbrev pub invariant-loop-mask : goal.invariant-loop-mask
invariant-loop-mask l = record {
  comes_from : l.best.from ≡ l.start.from;
  falls : l.best.table ≤ l.start.table;
  least : (m : ℕ) (b : Bool) → m < l.mask → l.best.table ≤ carry_table (by l.order m b) l.start.from;
}
