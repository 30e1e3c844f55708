use Rattle.std.proofs.Common.{sym, subst, ap, ◌∙◌}
use Rattle.entries.specs.Table.{Table, Rising, table_of, kept}
use Rattle.entries.specs.Rows.{table}
use Rattle.entries.proofs.Changes.{kept_not_missing, new_key_missing}
use Rattle.entries.proofs.Places.{stands_kept, remove_strikes, fits_not_kept}
use Rattle.entries.proofs.Tables.{rising_struck, struck_own_key, struck_other_keys}
use Rattle.entries.proofs.entries.Entries.strike.Goals as goal

-- the entry of the key is taken out
pub invariant_of-self : goal.invariant_of-self
invariant_of-self c = record { rising = subst Rising (sym (ap table_of c.remove.ensures.items ∙ remove_strikes _ _ _ c.in-Ok.ensures.place)) (rising_struck _ c.args.key c.args.self.now.rising) }

pub returns-in-Ok-clause-refused_where_not_kept : goal.returns-in-Ok-clause-refused_where_not_kept
returns-in-Ok-clause-refused_where_not_kept c = sym (kept_not_missing (table_of c.args.self.now.rows.items) c.args.key _ (stands_kept _ _ _ c.in-Ok.ensures.place c.remove.result))

pub returns-in-Ok-clause-struck_or_unchanged : goal.returns-in-Ok-clause-struck_or_unchanged
returns-in-Ok-clause-struck_or_unchanged c = ap table_of c.remove.ensures.items ∙ remove_strikes _ _ _ c.in-Ok.ensures.place

pub returns-in-Ok-clause-own_key : goal.returns-in-Ok-clause-own_key
returns-in-Ok-clause-own_key c =
    ap (λ (t : Table). kept t c.args.key) (ap table_of c.remove.ensures.items ∙ remove_strikes _ _ _ c.in-Ok.ensures.place)
    ∙ struck_own_key (table c.args.self.now) c.args.self.now.rising c.args.key

pub returns-in-Ok-clause-other_keys : goal.returns-in-Ok-clause-other_keys
returns-in-Ok-clause-other_keys c k differs =
    ap (λ (t : Table). kept t k) (ap table_of c.remove.ensures.items ∙ remove_strikes _ _ _ c.in-Ok.ensures.place)
    ∙ struck_other_keys (table c.args.self.now) c.args.self.now.rising c.args.key k differs

-- the key is not kept
pub returns-in-Err-clause-refused_where_not_kept : goal.returns-in-Err-clause-refused_where_not_kept
returns-in-Err-clause-refused_where_not_kept c = sym (new_key_missing (table_of c.args.self.now.rows.items) c.args.key (fits_not_kept _ _ _ c.in-Err.ensures.place c.args.self.now.rising))

pub returns-in-Err-clause-own_key : goal.returns-in-Err-clause-own_key
returns-in-Err-clause-own_key c = fits_not_kept _ _ _ c.in-Err.ensures.place c.args.self.now.rising
