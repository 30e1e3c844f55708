use Rattle.std.proofs.Common.{sym, refl, ap, ◌∙◌}
use Rattle.entry.specs.Held.{held}
use Rattle.entries.specs.Table.{Table, table_of, kept}
use Rattle.entries.specs.Rows.{table}
use Rattle.entries.proofs.Changes.{kept_has_room, lent_row_puts, lent_row_rises, own_key_put, other_keys_put}
use Rattle.entries.proofs.Places.{stands_kept}
use Rattle.entries.proofs.Tables.{put_own_key, put_other_keys}
use Rattle.entries.proofs.entries.Entries.put.Goals as goal

-- the entry of the key is written over
pub invariant_of-self : goal.invariant_of-self
invariant_of-self c = record { rising = lent_row_rises c.args.entry.key _ _ _ c.args.entry c.args.self.now.rising c.in-Ok.ensures.place c.deref_mut.ensures.value refl }

pub returns-in-Ok-clause-refused_where_full : goal.returns-in-Ok-clause-refused_where_full
returns-in-Ok-clause-refused_where_full c = sym (kept_has_room (table_of c.args.self.now.rows.items) c.args.entry.key _ (stands_kept _ _ _ c.in-Ok.ensures.place c.args.entry))

pub returns-in-Ok-clause-put_or_unchanged : goal.returns-in-Ok-clause-put_or_unchanged
returns-in-Ok-clause-put_or_unchanged c = lent_row_puts c.args.entry.key _ _ _ c.args.entry c.in-Ok.ensures.place c.deref_mut.ensures.value refl

pub returns-in-Ok-clause-own_key : goal.returns-in-Ok-clause-own_key
returns-in-Ok-clause-own_key c =
    ap (λ (t : Table). kept t c.args.entry.key) (lent_row_puts c.args.entry.key _ _ _ c.args.entry c.in-Ok.ensures.place c.deref_mut.ensures.value refl)
    ∙ put_own_key (table c.args.self.now) c.args.entry.key (held c.args.entry)

pub returns-in-Ok-clause-other_keys : goal.returns-in-Ok-clause-other_keys
returns-in-Ok-clause-other_keys c k differs =
    ap (λ (t : Table). kept t k) (lent_row_puts c.args.entry.key _ _ _ c.args.entry c.in-Ok.ensures.place c.deref_mut.ensures.value refl)
    ∙ put_other_keys (table c.args.self.now) c.args.entry.key (held c.args.entry) k differs

-- a new entry is inserted
pub returns-in-Err-clause-own_key : goal.returns-in-Err-clause-own_key
returns-in-Err-clause-own_key c = own_key_put c.insert.result c.args.self.now c.insert.new.self _ _ c.insert.ensures.put_or_unchanged

pub returns-in-Err-clause-other_keys : goal.returns-in-Err-clause-other_keys
returns-in-Err-clause-other_keys c = other_keys_put c.insert.result c.args.self.now c.insert.new.self _ _ c.insert.ensures.put_or_unchanged
