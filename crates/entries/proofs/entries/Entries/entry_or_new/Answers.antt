use Rattle.std.proofs.Common.{◌≡◌, sym, ap, ◌∙◌, arith, length}
use Rattle.std.proofs.lemmas.Grind.{common_steps}
use Rattle.std.proofs.lemmas.List.{length-map}
use Rattle.entries.specs.Table.{row_of, table_of, held_or}
use Rattle.entries.proofs.Places.{fits_not_kept}
use Rattle.entries.proofs.Changes.{kept_has_room, new_key_refusal, read_key, read_kept}
use Rattle.entries.proofs.entries.Entries.entry_or_new.Goals as goal

-- the row at the key's place
pub returns-in-Ok-clause-refused_where_full : goal.returns-in-Ok-clause-refused_where_full
returns-in-Ok-clause-refused_where_full c = sym (kept_has_room (table_of c.args.self.now.rows.items) c.args.key _ (read_kept _ _ _ _ _ c.in-Ok.ensures.place c.deref.ensures.0 c.index-deref-place.is))

pub returns-in-Ok-clause-of_the_key : goal.returns-in-Ok-clause-of_the_key
returns-in-Ok-clause-of_the_key c = read_key _ _ _ _ _ c.in-Ok.ensures.place c.deref.ensures.0 c.index-deref-place.is

pub returns-in-Ok-clause-what_is_kept_or_new : goal.returns-in-Ok-clause-what_is_kept_or_new
returns-in-Ok-clause-what_is_kept_or_new c = sym (ap held_or (read_kept _ _ _ _ _ c.in-Ok.ensures.place c.deref.ensures.0 c.index-deref-place.is))

-- a new key
pub returns-in-Err-clause-refused_where_full : goal.returns-in-Err-clause-refused_where_full
returns-in-Err-clause-refused_where_full c =
    let es = c.args.self.now.rows.items in
    let new_key = new_key_refusal (table_of es) c.args.key (fits_not_kept _ es _ c.in-Err.ensures.place c.args.self.now.rising) in
    let count : length (table_of es) ≡ length es = length-map es row_of in
    grind (arith, common_steps, new_key, count)

pub returns-in-Err-2-clause-what_is_kept_or_new : goal.returns-in-Err-2-clause-what_is_kept_or_new
returns-in-Err-2-clause-what_is_kept_or_new c = c.new.ensures.nothing_known ∙ sym (ap held_or (fits_not_kept c.args.key c.args.self.now.rows.items _ c.in-Err-2.ensures.place c.args.self.now.rising))
