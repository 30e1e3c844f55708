use Rattle.std.proofs.Common.{ℕ, ◌<◌, ◌≤◌, ◌^◌, length, ap, lit<, arith}
use Rattle.std.specs.Fmt.{decimal}
use Rattle.std.proofs.lemmas.Fmt.{decimal_nonempty, decimal_digit, length-decimal-le}
use Rattle.clause_text.proofs.Lists.{length_decimal_more}
use Rattle.clause_text.proofs.decimal.digit_count.Goals as goal

-- a number of 64 bits has at most 20 digits
at_most_twenty : (n : ℕ) → n < 2 ^ 64 → length (decimal n) ≤ 20
at_most_twenty n h = length-decimal-le 20 n (lit< tt) (omega arith) h

pub overflow_add-digits : goal.overflow_add-digits
overflow_add-digits c =
    omega (arith, at_most_twenty c.args.number (omega arith), decimal_nonempty c.loop-rest.rest (omega arith))

pub loop-rest-preserved : goal.loop-rest-preserved
loop-rest-preserved c = omega (arith, length_decimal_more c.loop-rest.rest c.loop-rest-test.true (omega arith))

pub returns : goal.returns
returns c =
    let e = ap (λ s. length s) (decimal_digit c.loop-rest.rest c.loop-rest-test.false) in
    record { count = omega (arith, e); bound = omega (arith, e, at_most_twenty c.args.number (omega arith)) }
