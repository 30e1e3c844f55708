use Rattle.std.proofs.Common.{arith}
use Rattle.transfer.proofs.Written.{kept_length}
use Rattle.transfer.proofs.exports.record_bytes.Goals as goal

-- a kept network has as many gates as its number says
pub returns-in-Some : goal.returns-in-Some
returns-in-Some c =
    let e = c.args.entry.now in
    let long = kept_length e.key e.lower e.network c.in-Some.network c.in-Some.is e.keepable in
    record { number_of_bytes = omega (arith, long.0, c.from.ensures); at_most_33 = omega (arith, long.1, c.from.ensures) }
