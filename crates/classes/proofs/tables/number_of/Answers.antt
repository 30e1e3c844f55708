use Rattle.std.proofs.Common.{◌≡◌, ℕ, ◌-◌, Bool, suc, refl, ap, arith, lit<}
use Rattle.std.proofs.Math.Nat.{pow-succ'}
use Rattle.mig.specs.Tables.{table_from}
use Rattle.mig_laws.proofs.Tables.{one, one_small, table_down}
use Rattle.classes.proofs.Bits.{bit_number}
use Rattle.classes.proofs.tables.number_of.Goals as goal

none : (n t : ℕ) (f : ℕ → Bool) → 0 ≡ table_from (n - n) t f
unfolding table_from
none n t f = let e : n - n ≡ 0 = omega arith in rw e refl

pub loop-t-init : goal.loop-t-init
loop-t-init g c = record { bits = λ f e. none c.args.rows c.args.rows f; fits = let e : c.args.rows - c.args.rows ≡ 0 = omega arith in rw e (lit< tt) }

pub loop-t-preserved : goal.loop-t-preserved
loop-t-preserved g c =
    let t = c.loop-t.t in
    let n = c.args.rows in
    record {
      bits = λ f e.
          let d = ap one (e (t - 1) c.bit.result (omega arith) c.bit.ensures) in
          omega (arith, table_down n t f (omega arith) (omega arith), c.loop-t.invariant.bits f e, d, c.from.ensures, bit_number c.bit.result);
      fits =
          let s : n - (t - 1) ≡ suc (n - t) = omega arith in
          rw s (omega (arith, pow-succ' 2 (n - t), one_small c.bit.result, c.from.ensures, bit_number c.bit.result));
    }
