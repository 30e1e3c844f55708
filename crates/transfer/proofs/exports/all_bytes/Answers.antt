use Rattle.std.proofs.Common.{rules, arith, tests, ◌∙◌}
use Rattle.std.proofs.lemmas.Iterator.{YieldsList-from_slice, YieldsList-from_map}
use Rattle.std.proofs.lemmas.Iterator.Adapters.{fits_from_length, at_most_from_yields_List}
use Rattle.std.proofs.lemmas.Iterator.Consumers.{sum_by_from_yields_List}
use Rattle.transfer.proofs.Written.{entry_bytes, lengths}
use Rattle.transfer.proofs.exports.all_bytes.Goals as goal

-- at most 64 records, each of at most 33 bytes
pub sum-requires-clause-fits : goal.sum-requires-clause-fits
sum-requires-clause-fits c =
    fits_from_length _ _ 64 _ (at_most_from_yields_List (YieldsList-from_slice c.args.rows.now cc) (omega arith)) c.map.ensures.closure (omega arith)
    (λ x r q k. search (rules, tests))

-- the sum of what each record takes
pub returns : goal.returns
returns c =
    sum_by_from_yields_List entry_bytes c.args.rows.now c.map.result c.sum.result c.sum.ensures.ran
    (YieldsList-from_map _ entry_bytes (YieldsList-from_slice c.args.rows.now cc) c.map.ensures.closure (λ x r q k. search (rules, tests)))
    ∙ lengths c.args.rows.now
