use Rattle.std.proofs.Common.{◌≡◌, ℕ, suc, ◌-◌, Bool, true, false, refl, ap, ◌∙◌, arith, lit<}
use Rattle.std.proofs.Math.Nat.{pow-succ'}
use mir.Val.{bool_byte}
use Rattle.mig.specs.Tables.{bit_at, table_from}
use Rattle.mig_laws.proofs.Tables.{one, one_small, table_down}
use Rattle.symmetry_laws.specs.Inputs.{exchange}
use Rattle.exact_clauses.proofs.symmetry.exchanged_row.Goals as goal

-- the number that the language makes of a truth value
bit_number : (b : Bool) → bool_byte b ≡ one b
bit_number true = refl
bit_number false = refl

none : (n t : ℕ) (f : ℕ → Bool) → 0 ≡ table_from (n - n) t f
unfolding table_from
none n t f = let e : n - n ≡ 0 = omega arith in rw e refl

pub loop-input-init : goal.loop-input-init
loop-input-init c =
    record {
      bits = none c.args.inputs c.args.inputs (λ x. bit_at c.args.row (exchange c.args.first c.args.second x));
      fits = let e : c.args.inputs - c.args.inputs ≡ 0 = omega arith in rw e (lit< tt);
    }

pub loop-input-preserved : goal.loop-input-preserved
loop-input-preserved c =
    let t = c.loop-input.input in
    let n = c.args.inputs in
    let f = λ (x : ℕ). bit_at c.args.row (exchange c.args.first c.args.second x) in
    let d : one c.bit.result ≡ one (f (t - 1)) = ap one (c.bit.ensures ∙ ap (bit_at c.args.row) (c.from.ensures ∙ c.exchange.ensures)) in
    record {
      bits = omega (arith, table_down n t f (omega arith) (omega arith), c.loop-input.invariant.bits, d, c.from-in-loop-input.ensures, bit_number c.bit.result);
      fits =
          let s : n - (t - 1) ≡ suc (n - t) = omega arith in
          rw s (omega (arith, pow-succ' 2 (n - t), one_small c.bit.result, c.from-in-loop-input.ensures, bit_number c.bit.result));
    }
