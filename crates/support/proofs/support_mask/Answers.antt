use Rattle.std.proofs.Common.{◌≡◌, ℕ, zero, suc, ◌+◌, ◌*◌, ◌%◌, ◌^◌, ◌<◌, ◌≤◌, Bool, true, false, ◌∙◌, add-one, arith, rules, tests}
use Rattle.std.proofs.Math.Nat.{pow-succ'}
use Rattle.std.proofs.lemmas.Iterator.{YieldsList-from_range, YieldsList-from_map}
use Rattle.std.proofs.lemmas.Iterator.Consumers.{YieldsList-at, sum_by_from_yields_List, fits_by_from_yields_list}
use Rattle.std.proofs.lemmas.List.Sums.{sum_by-cons}
use Rattle.std.specs.List.{range_with_len, sum_by}
use lib.Pow.{pow-lt}
use mir.Val.{bool_byte}
use Rattle.mig.specs.Tables.{table_from}
use Rattle.mig_laws.proofs.Tables.{one, table_below}
use Rattle.support_laws.specs.Support.{depends_at}
use Rattle.support.proofs.support_mask.Goals as goal

-- what the input k + 1 adds to a mask in a byte
abbrev weight : (ℕ → Bool) → ℕ → ℕ
weight g k = bool_byte (g k) * 2 ^ k % 256

-- one bit more below a mask
lower_bit : (b : Bool) (p m s : ℕ) → p < 256 → s ≡ m * (2 * p) → bool_byte b * p % 256 + s ≡ (one b + 2 * m) * p
lower_bit true p m s l e = grind arith
lower_bit false p m s l e = grind arith

-- what the inputs from t + 1 on add is their mask, moved up by t
weights : (r t : ℕ) (g : ℕ → Bool) → t + r ≤ 8 → sum_by (weight g) (range_with_len t r) ≡ table_from r t g * 2 ^ t
unfolding table_from
weights zero t g h = omega arith
weights (suc r) t g h =
    let e : 2 ^ (t + 1) ≡ 2 * 2 ^ t = rw add-one (pow-succ' 2 t) in
    sum_by-cons (weight g) t (range_with_len (t + 1) r)
    ∙ lower_bit (g t) (2 ^ t) (table_from r (t + 1) g) _ (pow-lt {j = 8} (omega arith))
    (rw e at (weights r (t + 1) g (omega arith)))

pub sum-requires-clause-fits : goal.sum-requires-clause-fits
sum-requires-clause-fits c =
    let n = c.args.inputs in
    let g = depends_at n c.args.table in
    let source = YieldsList-at c.map.ensures.source (YieldsList-from_range 0 n n (search rules) (omega arith)) in
    fits_by_from_yields_list (weight g) (range_with_len 0 n) c.map.result 256
    (YieldsList-from_map _ (weight g) source c.map.ensures.closure (λ x r q k. search (rules, tests)))
    (omega (arith, weights n 0 g (omega arith), table_below n 0 g, pow-lt {i = n} {j = 8} (omega arith)))

pub returns : goal.returns
returns c =
    let n = c.args.inputs in
    let g = depends_at n c.args.table in
    let source = YieldsList-at c.map.ensures.source (YieldsList-from_range 0 n n (search rules) (omega arith)) in
    let total = sum_by_from_yields_List (weight g) (range_with_len 0 n) c.map.result c.sum.result c.sum.ensures.ran
    (YieldsList-from_map _ (weight g) source c.map.ensures.closure (λ x r q k. search (rules, tests))) in
    omega (arith, total, weights n 0 g (omega arith))
