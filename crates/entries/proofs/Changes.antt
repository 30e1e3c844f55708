-- What the calls on entries do to the table: lemmas for their answers.
use Rattle.std.proofs.Common.{◌≡◌, ◌≢◌, ℕ, ◌&&◌, List, Option, Some, None, Result, Ok, Err, MatchResult, OnOk, length, get_or, set, refl, ap, ◌∙◌, sym, subst, length-set}
use Rattle.std.specs.Prelude.{is_none, nat_le}
use Rattle.std.specs.List.{refill}
use Rattle.std.proofs.lemmas.List.{set-get_or}
use Rattle.std.proofs.lemmas.Map.Keys.{IsStrictlySortedBy-prop}
use Rattle.arrayvec.specs.ArrayVec.{ArrayVec}
use Rattle.arrayvec.proofs.ArrayVecLemmas.{items-with_items}
use Rattle.mig.specs.declared.network.Network.{Network}
use Rattle.mig.specs.declared.refusal.Refusal.{Refusal}
use Rattle.mig.specs.declared.refusal.Refusal.TheVariants.{CollectionFull, KeyNotKept, NoImprovement}
use Rattle.mig.specs.Rules.{refuse_if, or_else}
use Rattle.filing.specs.declared.key.Key.{Key}
use Rattle.entry.specs.declared.entry.Entry.{Entry}
use Rattle.entry.specs.Held.{Held, held, upper}
use Rattle.entries.specs.declared.entries.Entries.{Entries}
use Rattle.entries.specs.Table.{Table, Rising, table_of, kept, kept_or_new, held_or, put, capacity, full_refusal, missing_refusal, deposit_refusal, is_no_more, with_network}
use Rattle.entries.specs.Rows.{table}
use Rattle.entries.specs.Places.{StandsAt}
use Rattle.entries.proofs.Tables.{put_own_key, put_other_keys, rising_put}
use Rattle.entries.proofs.Places.{stands_key, stands_kept, set_puts}

-- a key that is kept has room
pub kept_has_room : (t : Table) (k : Key) (h : Held) → kept t k ≡ Some h → full_refusal t k ≡ None
kept_has_room t k h is = ap (λ (o : Option Held). refuse_if (is_none o && nat_le capacity (length t)) CollectionFull) is

-- a new key is refused where the collection is full
pub new_key_refusal : (t : Table) (k : Key) → kept t k ≡ None → full_refusal t k ≡ refuse_if (nat_le capacity (length t)) CollectionFull
new_key_refusal t k is = ap (λ (o : Option Held). refuse_if (is_none o && nat_le capacity (length t)) CollectionFull) is

-- a key that is kept can be struck
pub kept_not_missing : (t : Table) (k : Key) (h : Held) → kept t k ≡ Some h → missing_refusal t k ≡ None
kept_not_missing t k h is = ap (λ (o : Option Held). refuse_if (is_none o) KeyNotKept) is

-- a key that is not kept cannot
pub new_key_missing : (t : Table) (k : Key) → kept t k ≡ None → missing_refusal t k ≡ Some KeyNotKept
new_key_missing t k is = ap (λ (o : Option Held). refuse_if (is_none o) KeyNotKept) is

-- entries of the same rows are the same
pub same_rows : (a b : Entries) → a.rows.items ≡ b.rows.items → a ≡ b
same_rows a b e =
    let vec : (xs : List Entry) → ArrayVec Entry = λ xs. record { items = xs } in
    let made : (xs : List Entry) → Rising (table_of xs) → Entries = λ xs p. record { rows = vec xs; rising = p } in
    subst (λ (ys : List Entry). (q : Rising (table_of ys)) → made a.rows.items a.rising ≡ made ys q) e
    (λ q. ap (made a.rows.items) (IsStrictlySortedBy-prop _ _ a.rising q)) b.rising

-- the same put, with the key and what is kept named otherwise
pub put_alike : (r : Result Unit Refusal) (old new : Entries) (k l : Key) (g h : Held) → l ≡ k → g ≡ h → MatchResult r (λ _. table new ≡ put (table old) l g) (λ _. new ≡ old) → MatchResult r (λ _. table new ≡ put (table old) k h) (λ _. new ≡ old)
put_alike (Ok x) old new k l g h same alike is = is ∙ ap (λ (q : Key). put (table old) q g) same ∙ ap (put (table old) k) alike
put_alike (Err e) old new k l g h same alike is = is

-- after putting, the key has what was put
pub own_key_put : (r : Result Unit Refusal) (old new : Entries) (k : Key) (h : Held) → MatchResult r (λ _. table new ≡ put (table old) k h) (λ _. new ≡ old) → OnOk r (kept (table new) k ≡ Some h)
own_key_put (Ok x) old new k h is = ap (λ (t : Table). kept t k) is ∙ put_own_key (table old) k h
own_key_put (Err e) old new k h is = tt

-- every other key has what it had, refused or not
pub other_keys_put : (r : Result Unit Refusal) (old new : Entries) (k : Key) (h : Held) → MatchResult r (λ _. table new ≡ put (table old) k h) (λ _. new ≡ old) → (q : Key) → q ≢ k → kept (table new) q ≡ kept (table old) q
other_keys_put (Ok x) old new k h is q differs = ap (λ (t : Table). kept t q) is ∙ put_other_keys (table old) k h q differs
other_keys_put (Err e) old new k h is q differs = ap (λ (e : Entries). kept (table e) q) is

-- the rows after one of them was lent and written
pub lent_row : (es shown : List Entry) (i : ℕ) (e : Entry) → shown ≡ es → refill (length es) es (set shown i e) ≡ set es i e
lent_row es shown i e same = ap (λ (l : List Entry). refill (length es) es (set l i e)) same ∙ items-with_items (record { items = es }) (set es i e) (length-set es i e)

-- the row of a key, lent and written, puts the key
pub lent_row_puts : (k : Key) (es shown : List Entry) (i : ℕ) (e : Entry) → StandsAt k es i → shown ≡ es → e.key ≡ k → table_of (refill (length es) es (set shown i e)) ≡ put (table_of es) k (held e)
lent_row_puts k es shown i e stands same key = ap table_of (lent_row es shown i e same) ∙ set_puts k es i stands e key

pub lent_row_rises : (k : Key) (es shown : List Entry) (i : ℕ) (e : Entry) → Rising (table_of es) → StandsAt k es i → shown ≡ es → e.key ≡ k → Rising (table_of (refill (length es) es (set shown i e)))
lent_row_rises k es shown i e rising stands same key = subst Rising (sym (lent_row_puts k es shown i e stands same key)) (rising_put (table_of es) k (held e) rising)

-- the row of a key, as it is lent
pub lent_key : (k : Key) (es shown : List Entry) (i : ℕ) (d : Entry) → StandsAt k es i → shown ≡ es → (get_or shown i d).key ≡ k
lent_key k es shown i d stands same = ap (λ (l : List Entry). (get_or l i d).key) same ∙ stands_key k es i stands d

-- what is kept of the key
pub lent_kept : (k : Key) (es shown : List Entry) (i : ℕ) (d : Entry) → StandsAt k es i → shown ≡ es → kept (table_of es) k ≡ Some (held (get_or shown i d))
lent_kept k es shown i d stands same = stands_kept k es i stands d ∙ ap (λ (l : List Entry). Some (held (get_or l i d))) (sym same)

-- the same of the row as it was read
pub read_key : (k : Key) (es shown : List Entry) (i : ℕ) (e : Entry) → StandsAt k es i → shown ≡ es → e ≡ get_or shown i e → e.key ≡ k
read_key k es shown i e stands same is = ap (λ (x : Entry). x.key) is ∙ lent_key k es shown i e stands same

pub read_kept : (k : Key) (es shown : List Entry) (i : ℕ) (e : Entry) → StandsAt k es i → shown ≡ es → e ≡ get_or shown i e → kept (table_of es) k ≡ Some (held e)
read_kept k es shown i e stands same is = lent_kept k es shown i e stands same ∙ ap (λ (x : Entry). Some (held x)) (sym is)

or_else_none : (o : Option Refusal) → or_else o None ≡ o
or_else_none None = refl
or_else_none (Some e) = refl

-- a deposit under a key that is kept is refused for no improvement alone
pub kept_deposit_refusal : (t : Table) (k : Key) (h : Held) (gates : ℕ) → kept t k ≡ Some h → deposit_refusal t k gates ≡ refuse_if (is_no_more (upper h) gates) NoImprovement
kept_deposit_refusal t k h gates is =
    ap (λ (o : Option Held). or_else (refuse_if (is_no_more (upper (held_or o)) gates) NoImprovement) (full_refusal t k)) is
    ∙ ap (or_else (refuse_if (is_no_more (upper h) gates) NoImprovement)) (kept_has_room t k h is) ∙ or_else_none _

-- a deposit under a new key is refused where the collection is full
pub new_deposit_refusal : (t : Table) (k : Key) (gates : ℕ) → kept t k ≡ None → deposit_refusal t k gates ≡ full_refusal t k
new_deposit_refusal t k gates is = ap (λ (o : Option Held). or_else (refuse_if (is_no_more (upper (held_or o)) gates) NoImprovement) (full_refusal t k)) is

-- the entries after a row was lent for a deposit
pub lent_row_improved : (r : Result Unit Refusal) (old new : Entries) (k : Key) (shown : List Entry) (i : ℕ) (row d : Entry) (network : Network)
    → StandsAt k old.rows.items i → shown ≡ old.rows.items → new.rows.items ≡ refill (length old.rows.items) old.rows.items (set shown i row) → row.key ≡ k
    → MatchResult r (λ _. held row ≡ with_network (held (get_or shown i d)) network) (λ _. row ≡ get_or shown i d)
    → MatchResult r (λ _. table new ≡ put (table old) k (with_network (kept_or_new (table old) k) network)) (λ _. new ≡ old)
lent_row_improved (Ok x) old new k shown i row d network stands same is key improved =
    ap table_of is ∙ lent_row_puts k old.rows.items shown i row stands same key
    ∙ ap (put (table old) k) (improved ∙ ap (λ (o : Option Held). with_network (held_or o) network) (sym (lent_kept k old.rows.items shown i d stands same)))
lent_row_improved (Err e) old new k shown i row d network stands same is key improved =
    same_rows new old (is ∙ lent_row old.rows.items shown i row same ∙ ap (set old.rows.items i) (improved ∙ ap (λ (l : List Entry). get_or l i d) same) ∙ set-get_or old.rows.items i d)
