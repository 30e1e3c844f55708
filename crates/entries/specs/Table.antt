-- The table of a collection: what is kept of each key, in the order of the keys.
use Rattle.std.specs.Prelude.{ℕ, List, Option, Some, None, Bool, false, map, length, ◌&&◌, is_none, nat_le}
use Rattle.std.specs.Map.{lookup, remove_entry, keys_of}
use Rattle.std.specs.List.Sorted.{IsStrictlySortedBy}
use Rattle.std.specs.BTreeMap.{is_at, insert_entry}
use Rattle.mig.specs.declared.network.Network.{Network}
use Rattle.mig.specs.declared.refusal.Refusal.{Refusal}
use Rattle.mig.specs.declared.refusal.Refusal.TheVariants.{CollectionFull, KeyNotKept, NoImprovement}
use Rattle.mig.specs.Rules.{refuse_if, or_else}
use Rattle.filing.specs.declared.key.Key.{Key}
use Rattle.filing.specs.Filing.{key_cmp}
use Rattle.entry.specs.declared.entry.Entry.{Entry}
use Rattle.entry.specs.Held.{Held, held, nothing, upper}

-- keys and what is kept of each, in the order of the keys
abbrev pub Table : Type 0
Table = List (Key × Held)

-- the key of an entry, and what it keeps
abbrev pub row_of : Entry → Key × Held
row_of e = (e.key, held e)

-- the table of a row of entries
abbrev pub table_of : List Entry → Table
table_of es = map row_of es

-- the keys rise, so no key stands twice
abbrev pub Rising : Table → Type 0
Rising t = IsStrictlySortedBy key_cmp (keys_of t)

-- what is kept of a key, if the key is kept
abbrev pub kept : Table → Key → Option Held
kept t k = lookup (is_at (key_cmp k)) t

-- what is kept of a key, or what a new entry keeps
abbrev pub held_or : Option Held → Held
held_or None = nothing
held_or (Some h) = h

abbrev pub kept_or_new : Table → Key → Held
kept_or_new t k = held_or (kept t k)

-- the table with h kept of the key k: in the place of what is kept of k, or at its place in the order
abbrev pub put : Table → Key → Held → Table
put t k h = insert_entry key_cmp t k h

-- the table without the key k
abbrev pub struck : Table → Key → Table
struck t k = remove_entry (is_at (key_cmp k)) t

-- how many entries a collection keeps at most
abbrev pub capacity : ℕ
capacity = 64

-- a new key is refused where the collection is full
abbrev pub full_refusal : Table → Key → Option Refusal
full_refusal t k = refuse_if (is_none (kept t k) && nat_le capacity (length t)) CollectionFull

-- a key that is not kept is refused
abbrev pub missing_refusal : Table → Key → Option Refusal
missing_refusal t k = refuse_if (is_none (kept t k)) KeyNotKept

-- a number is there, and is at most g
abbrev pub is_no_more : Option ℕ → ℕ → Bool
is_no_more None g = false
is_no_more (Some u) g = nat_le u g

-- a network of so many gates is refused where one of no more gates is kept
abbrev pub no_improvement : Table → Key → ℕ → Option Refusal
no_improvement t k gates = refuse_if (is_no_more (upper (kept_or_new t k)) gates) NoImprovement

-- what a deposit of a network of so many gates is refused for, in this order
abbrev pub deposit_refusal : Table → Key → ℕ → Option Refusal
deposit_refusal t k gates = or_else (no_improvement t k gates) (full_refusal t k)

-- what is kept of the key of a deposited network: the lower number stays, and the network is kept
abbrev pub with_network : Held → Network → Held
with_network h network = record { lower = h.lower; network = Some network }
