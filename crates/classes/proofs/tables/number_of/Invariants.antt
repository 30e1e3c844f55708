use Rattle.std.proofs.Common.{◌≡◌, ℕ, ◌-◌, ◌^◌, ◌<◌, Bool}
use Rattle.mig.specs.Tables.{table_from}
use Rattle.classes.proofs.tables.number_of.Given as goal

-- the bits from t on
abbrev pub invariant-loop-t : goal.invariant-loop-t
invariant-loop-t g l = record {
  bits : (f : ℕ → Bool) → ((t : ℕ) (b : Bool) → t < l.rows → goal.F-post g l.bit t b → b ≡ f t) → l.number ≡ table_from (l.rows - l.t) l.t f;
  fits : l.number < 2 ^ (l.rows - l.t);
}
