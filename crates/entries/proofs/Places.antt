-- What a change at the place of a key does to the table.
use Rattle.std.proofs.Common.{◌≡◌, ℕ, zero, suc, ◌<◌, ◌≤◌, [], ◌∷◌, List, Some, None, length, get_or, set, refl, ap, ◌∙◌, sym, arith, true, false}
use Rattle.std.specs.declared.cmp.Ordering.TheVariants.{Less, Equal, Greater}
use Rattle.std.specs.List.{insert, remove}
use Rattle.std.specs.Ordering.{is_eq}
use Rattle.std.specs.BTreeMap.{is_at}
use Rattle.std.proofs.lemmas.Map.{lookup-none}
use Rattle.std.proofs.lemmas.Map.Entries.{none_below_head}
use Rattle.std.proofs.lemmas.Map.Keys.{sorted_tail}
use Rattle.std.specs.Map.{keys_of}
use Rattle.filing.specs.declared.key.Key.{Key}
use Rattle.filing.specs.Filing.{key_cmp}
use Rattle.entry.specs.declared.entry.Entry.{Entry}
use Rattle.entry.specs.Held.{held}
use Rattle.entries.specs.Table.{Table, Rising, row_of, table_of, kept, put, struck}
use Rattle.entries.specs.Places.{StandsAt, FitsAt}
use Rattle.entries.proofs.Keys.{keys_total, alike}
use Rattle.entries.proofs.Tables.{put_step, struck_step, kept_first, kept_later}

pub stands_within : (k : Key) (es : List Entry) (i : ℕ) → StandsAt k es i → i < length es
unfolding StandsAt
stands_within k [] i h = absurd h
stands_within k (e ∷ es) zero h = omega arith
stands_within k (e ∷ es) (suc i) h = omega (arith, stands_within k es i h.1)

pub stands_key : (k : Key) (es : List Entry) (i : ℕ) → StandsAt k es i → (d : Entry) → (get_or es i d).key ≡ k
unfolding StandsAt
stands_key k [] i h d = absurd h
stands_key k (e ∷ es) zero h d = h
stands_key k (e ∷ es) (suc i) h d = stands_key k es i h.1 d

-- the entry at the place of the key has what is kept of it
pub stands_kept : (k : Key) (es : List Entry) (i : ℕ) → StandsAt k es i → (d : Entry) → kept (table_of es) k ≡ Some (held (get_or es i d))
unfolding StandsAt
stands_kept k [] i h d = absurd h
stands_kept k (e ∷ es) zero h d = kept_first k (row_of e) (table_of es) h
stands_kept k (e ∷ es) (suc i) h d = kept_later k (row_of e) (table_of es) (ap is_eq h.0) ∙ stands_kept k es i h.1 d

-- writing over the entry of the key puts the key
pub set_puts : (k : Key) (es : List Entry) (i : ℕ) → StandsAt k es i → (e : Entry) → e.key ≡ k → table_of (set es i e) ≡ put (table_of es) k (held e)
unfolding StandsAt
set_puts k [] i h e same = absurd h
set_puts k (x ∷ es) zero h e same = ap (λ (q : Key). (q, held e) ∷ table_of es) (same ∙ sym h) ∙ sym (put_step k (held e) (row_of x) (table_of es) Equal (alike k x.key h))
set_puts k (x ∷ es) (suc i) h e same = ap (λ (t : Table). row_of x ∷ t) (set_puts k es i h.1 e same) ∙ sym (put_step k (held e) (row_of x) (table_of es) Greater h.0)

-- taking the entry of the key out strikes the key
pub remove_strikes : (k : Key) (es : List Entry) (i : ℕ) → StandsAt k es i → table_of (remove es i) ≡ struck (table_of es) k
unfolding StandsAt
remove_strikes k [] i h = absurd h
remove_strikes k (x ∷ es) zero h = sym (struck_step k (row_of x) (table_of es) true (ap is_eq (alike k x.key h)))
remove_strikes k (x ∷ es) (suc i) h = ap (λ (t : Table). row_of x ∷ t) (remove_strikes k es i h.1) ∙ sym (struck_step k (row_of x) (table_of es) false (ap is_eq h.0))

pub fits_within : (k : Key) (es : List Entry) (i : ℕ) → FitsAt k es i → i ≤ length es
unfolding FitsAt
fits_within k [] zero h = omega arith
fits_within k [] (suc i) h = absurd h
fits_within k (e ∷ es) zero h = omega arith
fits_within k (e ∷ es) (suc i) h = omega (arith, fits_within k es i h.1)

-- a key with a place between others is not kept
pub fits_not_kept : (k : Key) (es : List Entry) (i : ℕ) → FitsAt k es i → Rising (table_of es) → kept (table_of es) k ≡ None
unfolding FitsAt
fits_not_kept k [] i h rising = refl
fits_not_kept k (e ∷ es) zero h rising = lookup-none (is_at (key_cmp k)) (table_of (e ∷ es)) (none_below_head keys_total k (row_of e) (table_of es) rising h)
fits_not_kept k (e ∷ es) (suc i) h rising = kept_later k (row_of e) (table_of es) (ap is_eq h.0) ∙ fits_not_kept k es i h.1 (sorted_tail key_cmp e.key (keys_of (table_of es)) rising)

-- an entry inserted at the place of its key puts the key
pub insert_puts : (es : List Entry) (i : ℕ) (e : Entry) → FitsAt e.key es i → table_of (insert es i e) ≡ put (table_of es) e.key (held e)
unfolding FitsAt
insert_puts [] zero e h = refl
insert_puts [] (suc i) e h = absurd h
insert_puts (x ∷ es) zero e h = sym (put_step e.key (held e) (row_of x) (table_of es) Less h)
insert_puts (x ∷ es) (suc i) e h = ap (λ (t : Table). row_of x ∷ t) (insert_puts es i e h.1) ∙ sym (put_step e.key (held e) (row_of x) (table_of es) Greater h.0)
