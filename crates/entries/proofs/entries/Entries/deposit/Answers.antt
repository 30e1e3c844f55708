use Rattle.std.proofs.Common.{sym, ap, ◌∙◌, refl}
use Rattle.entry.specs.Held.{Held}
use Rattle.entries.specs.Table.{held_or, full_refusal, with_network}
use Rattle.entries.specs.Rows.{table}
use Rattle.entries.proofs.Changes.{lent_key, lent_kept, lent_row_rises, lent_row_improved, kept_deposit_refusal, new_deposit_refusal, put_alike, own_key_put, other_keys_put}
use Rattle.entries.proofs.Places.{fits_not_kept}
use Rattle.entries.proofs.entries.Entries.deposit.Goals as goal

-- the entry of the key is lent
pub improve-requires : goal.improve-requires
improve-requires c = record { same_key = lent_key _ _ _ _ _ c.in-Ok.ensures.place c.deref_mut.ensures.value }

pub invariant_of-self : goal.invariant_of-self
invariant_of-self c = record { rising = lent_row_rises _ _ _ _ c.improve.new.row c.args.self.now.rising c.in-Ok.ensures.place c.deref_mut.ensures.value (c.improve.ensures.same_key ∙ lent_key _ _ _ _ _ c.in-Ok.ensures.place c.deref_mut.ensures.value) }

pub returns-in-Ok-clause-refused_by_the_rule : goal.returns-in-Ok-clause-refused_by_the_rule
returns-in-Ok-clause-refused_by_the_rule c =
    c.improve.ensures.refused_where_no_fewer
    ∙ sym (kept_deposit_refusal (table c.args.self.now) c.args.filed.key _ c.args.filed.network.count (lent_kept _ _ _ _ c.index-deref_mut-place.result c.in-Ok.ensures.place c.deref_mut.ensures.value))

pub returns-in-Ok-clause-put_or_unchanged : goal.returns-in-Ok-clause-put_or_unchanged
returns-in-Ok-clause-put_or_unchanged c =
    lent_row_improved c.improve.result c.args.self.now _ c.args.filed.key c.deref_mut.result.now c.in-Ok.place c.improve.new.row c.index-deref_mut-place.result c.args.filed.network c.in-Ok.ensures.place c.deref_mut.ensures.value refl
    (c.improve.ensures.same_key ∙ lent_key _ _ _ _ _ c.in-Ok.ensures.place c.deref_mut.ensures.value) c.improve.ensures.improved_or_unchanged

pub returns-in-Ok-clause-own_key : goal.returns-in-Ok-clause-own_key
returns-in-Ok-clause-own_key c = own_key_put c.improve.result c.args.self.now _ _ _ (returns-in-Ok-clause-put_or_unchanged c)

pub returns-in-Ok-clause-other_keys : goal.returns-in-Ok-clause-other_keys
returns-in-Ok-clause-other_keys c = other_keys_put c.improve.result c.args.self.now _ _ _ (returns-in-Ok-clause-put_or_unchanged c)

-- a new entry is inserted
pub returns-in-Err-clause-refused_by_the_rule : goal.returns-in-Err-clause-refused_by_the_rule
returns-in-Err-clause-refused_by_the_rule c =
    let new_key = fits_not_kept _ _ _ c.in-Err.ensures.place c.args.self.now.rising in
    c.insert.ensures.refused_where_full ∙ ap (full_refusal (table c.args.self.now)) c.new-entry.ensures.key
    ∙ sym (new_deposit_refusal (table c.args.self.now) c.args.filed.key c.args.filed.network.count new_key)

pub returns-in-Err-clause-put_or_unchanged : goal.returns-in-Err-clause-put_or_unchanged
returns-in-Err-clause-put_or_unchanged c =
    let new_key = fits_not_kept _ _ _ c.in-Err.ensures.place c.args.self.now.rising in
    put_alike c.insert.result c.args.self.now c.insert.new.self c.args.filed.key _ _ _ c.new-entry.ensures.key
    (ap (λ (h : Held). with_network h c.args.filed.network) (c.new-entry.ensures.nothing_known ∙ sym (ap held_or new_key))) c.insert.ensures.put_or_unchanged

pub returns-in-Err-clause-own_key : goal.returns-in-Err-clause-own_key
returns-in-Err-clause-own_key c = own_key_put c.insert.result c.args.self.now c.insert.new.self _ _ (returns-in-Err-clause-put_or_unchanged c)

pub returns-in-Err-clause-other_keys : goal.returns-in-Err-clause-other_keys
returns-in-Err-clause-other_keys c = other_keys_put c.insert.result c.args.self.now c.insert.new.self _ _ (returns-in-Err-clause-put_or_unchanged c)
