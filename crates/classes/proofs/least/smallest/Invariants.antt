use Rattle.std.proofs.Common.{◌≡◌, ℕ, ◌<◌, ◌≤◌, Bool}
use Rattle.class_laws.specs.Ways.{carry_table}
use Rattle.classes.specs.Reach.{by}
use Rattle.classes.proofs.least.smallest.Given as goal

abbrev pub invariant-loop-order : goal.invariant-loop-order
invariant-loop-order l = record {
  comes_from : l.best.from ≡ l.table;
  least : (k m : ℕ) (b : Bool) → k < l.order → m < 16 → l.best.table ≤ carry_table (by k m b) l.table;
}
