-- What a binary search among entries whose keys rise finds.
use Rattle.std.proofs.Common.{◌≡◌, ℕ, zero, suc, ◌+◌, ◌<◌, ◌≤◌, [], ◌∷◌, List, length, get_or, Result, Ok, Err, MatchResult, ap, ◌∙◌, sym, arith}
use Rattle.std.specs.declared.cmp.Ordering.TheVariants.{Less, Equal, Greater}
use Rattle.std.specs.List.{AllByRecursion}
use Rattle.std.specs.List.Sorted.{IsStrictlySortedBy, IsSortedBy, IsNonDecreasingBy, IsSearchInRange, IsBinarySearchResult}
use Rattle.std.specs.Map.{keys_of}
use Rattle.std.specs.Ordering.{is_lt, ordering_index}
use Rattle.std.proofs.lemmas.List.Sorted.{searchable_from_sorted}
use Rattle.filing.specs.declared.key.Key.{Key}
use Rattle.filing.specs.Filing.{key_cmp}
use Rattle.entry.specs.declared.entry.Entry.{Entry}
use Rattle.entries.specs.Table.{Rising, table_of}
use Rattle.entries.specs.Places.{StandsAt, FitsAt}
use Rattle.entries.proofs.Keys.{keys_total, exact_keys, greater_back, less_back}

-- a key below all keys of a row is below each
below_each : (k : Key) (es : List Entry) (i : ℕ) (d : Entry) → AllByRecursion (λ y. key_cmp k y ≡ Less) (keys_of (table_of es)) → i < length es → key_cmp k (get_or es i d).key ≡ Less
below_each k [] i d a within = absurd (omega arith)
below_each k (e ∷ es) zero d a within = a.0
below_each k (e ∷ es) (suc i) d a within = below_each k es i d a.1 (omega arith)

-- an earlier entry has a lesser key
less_before : (es : List Entry) → Rising (table_of es) → (i j : ℕ) (d : Entry) → i < j → j < length es → key_cmp (get_or es i d).key (get_or es j d).key ≡ Less
unfolding IsStrictlySortedBy
less_before [] rising i j d lt within = absurd (omega arith)
less_before (e ∷ es) rising i zero d lt within = absurd (omega arith)
less_before (e ∷ es) rising zero (suc j) d lt within = below_each e.key es j d rising.0 (omega arith)
less_before (e ∷ es) rising (suc i) (suc j) d lt within = less_before es rising.1 i j d (omega arith) (omega arith)

-- the answers of the comparison with a key rise along the row
pub searchable : (es : List Entry) → Rising (table_of es) → (k : Key) → IsNonDecreasingBy (λ e. ordering_index (key_cmp e.key k)) es
searchable es rising k =
    let sorted : IsSortedBy (λ (a b : Entry). is_lt (key_cmp a.key b.key)) es = λ m d low high. ap is_lt (greater_back (get_or es m d).key (get_or es (m + 1) d).key (less_before es rising m (m + 1) d (omega arith) (omega arith))) in
    searchable_from_sorted keys_total (λ e. e.key) es k sorted

stands_from_search : (es : List Entry) → Rising (table_of es) → (k : Key) (i : ℕ) → i < length es → ((d : Entry) → key_cmp (get_or es i d).key k ≡ Equal) → StandsAt k es i
unfolding StandsAt IsStrictlySortedBy
stands_from_search [] rising k i within same = absurd (omega arith)
stands_from_search (e ∷ es) rising k zero within same = exact_keys e.key k (same e)
stands_from_search (e ∷ es) rising k (suc i) within same =
    let later : (get_or es i e).key ≡ k = exact_keys _ _ (same e) in
    (greater_back e.key k (ap (key_cmp e.key) (sym later) ∙ below_each e.key es i e rising.0 (omega arith)), stands_from_search es rising.1 k i (omega arith) same)

fits_from_search : (es : List Entry) (k : Key) (i : ℕ) → i ≤ length es → ((j : ℕ) (d : Entry) → j < i → key_cmp (get_or es j d).key k ≡ Less) → ((j : ℕ) (d : Entry) → i ≤ j → j < length es → key_cmp (get_or es j d).key k ≡ Greater) → FitsAt k es i
unfolding FitsAt
fits_from_search [] k zero within before after = tt
fits_from_search [] k (suc i) within before after = absurd (omega arith)
fits_from_search (e ∷ es) k zero within before after = less_back e.key k (after 0 e (omega arith) (omega arith))
fits_from_search (e ∷ es) k (suc i) within before after = (greater_back e.key k (before 0 e (omega arith)), fits_from_search es k i (omega arith) (λ j d lt. before (suc j) d (omega arith)) (λ j d le lt. after (suc j) d (omega arith) (omega arith)))

-- a binary search by the comparison with a key ends at the key, or where it would stand
pub searched : (es : List Entry) → Rising (table_of es) → (k : Key) (r : Result ℕ ℕ) → IsSearchInRange r (length es) → IsBinarySearchResult (λ e. key_cmp e.key k) es r → MatchResult r (StandsAt k es) (FitsAt k es)
searched es rising k (Ok i) within found = stands_from_search es rising k i within found
searched es rising k (Err i) within parted = let p = parted (searchable es rising k) in fits_from_search es k i within (λ j d lt. p.0 j d (omega arith) lt) (λ j d le lt. p.1 j d le lt)
