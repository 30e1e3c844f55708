use Rattle.std.proofs.Common.{◌^◌, ◌<◌, rules}
use lib.Bits.{xor_lt}
use lib.Pow.{pow-lt}
use Rattle.support.proofs.changes.Goals as goal

pub row_bit-requires-2 : goal.row_bit-requires-2
row_bit-requires-2 c =
    let small : 2 ^ c.args.place < 16 = pow-lt {j = 4} c.requires.0 in
    search (rules, xor_lt 5)
