use Rattle.std.proofs.Common.{◌≡◌, subst, sym, ap, ◌∙◌, arith, length}
use Rattle.std.proofs.lemmas.Grind.{common_steps}
use Rattle.std.proofs.lemmas.List.{length-map}
use Rattle.entry.specs.Held.{held}
use Rattle.entries.specs.Table.{Rising, row_of, table_of}
use Rattle.entries.proofs.Tables.{rising_put}
use Rattle.entries.proofs.Places.{insert_puts, fits_not_kept}
use Rattle.entries.proofs.Changes.{new_key_refusal}
use Rattle.entries.proofs.entries.Entries.insert.Goals as goal

pub invariant_of-self : goal.invariant_of-self
invariant_of-self c =
    let es = c.args.self.now.rows.items in
    let made = ap table_of c.insert.ensures.items ∙ insert_puts es c.args.place c.args.entry c.requires.fits in
    record { rising = subst Rising (sym made) (rising_put (table_of es) c.args.entry.key (held c.args.entry) c.args.self.now.rising) }

pub returns-then-is_full-clause-refused_where_full : goal.returns-then-is_full-clause-refused_where_full
returns-then-is_full-clause-refused_where_full c =
    let es = c.args.self.now.rows.items in
    let new_key = new_key_refusal (table_of es) c.args.entry.key (fits_not_kept _ es c.args.place c.requires.fits c.args.self.now.rising) in
    let count : length (table_of es) ≡ length es = length-map es row_of in
    grind (arith, common_steps, new_key, count)

pub returns-clause-put_or_unchanged : goal.returns-clause-put_or_unchanged
returns-clause-put_or_unchanged c = ap table_of c.insert.ensures.items ∙ insert_puts _ c.args.place c.args.entry c.requires.fits
