-- What putting a key into a table and striking one do: for every table whose keys rise.
use Rattle.std.proofs.Common.{◌≡◌, ◌≢◌, Bool, true, false, cond, [], ◌∷◌, List, Some, None, refl, ap, ◌∙◌, sym, subst}
use Rattle.std.specs.declared.cmp.Ordering.{Ordering}
use Rattle.std.specs.declared.cmp.Ordering.TheVariants.{Less, Equal, Greater}
use Rattle.std.specs.Ordering.{is_eq, match_ordering, eq_by_cmp}
use Rattle.std.specs.List.{AllByRecursion}
use Rattle.std.specs.List.Sorted.{IsStrictlySortedBy}
use Rattle.std.specs.Map.{keys_of}
use Rattle.std.specs.BTreeMap.{is_at}
use Rattle.std.proofs.lemmas.Cmp.{eq_by_cmp_equiv}
use Rattle.std.proofs.lemmas.Map.{lookup-remove_entry}
use Rattle.std.proofs.lemmas.Map.Entries.{lookup_head, lookup_tail}
use Rattle.std.proofs.lemmas.Map.Keys.{IsDistinct-from_sorted}
use Rattle.filing.specs.declared.key.Key.{Key}
use Rattle.filing.specs.Filing.{key_cmp}
use Rattle.entry.specs.declared.entry.Entry.{Entry}
use Rattle.entry.specs.Held.{Held}
use Rattle.entries.specs.Table.{Table, Rising, table_of, kept, put, struck}
use Rattle.entries.proofs.Keys.{keys_total, exact_keys, alike, less_back}

-- one step of putting
pub put_step : (k : Key) (h : Held) (e : Key × Held) (t : Table) (r : Ordering) → key_cmp k e.0 ≡ r → put (e ∷ t) k h ≡ match_ordering r ((k, h) ∷ e ∷ t) ((e.0, h) ∷ t) (e ∷ put t k h)
put_step k h e t r p = ap (λ o. match_ordering o ((k, h) ∷ e ∷ t) ((e.0, h) ∷ t) (e ∷ put t k h)) p

-- one step of striking
pub struck_step : (k : Key) (e : Key × Held) (t : Table) (b : Bool) → is_at (key_cmp k) e.0 ≡ b → struck (e ∷ t) k ≡ cond b t (e ∷ struck t k)
struck_step k e t b p = ap (λ b. cond b t (e ∷ struck t k)) p

-- the first row has what is kept of its key
pub kept_first : (k : Key) (e : Key × Held) (t : Table) → e.0 ≡ k → kept (e ∷ t) k ≡ Some e.1
kept_first k e t h = lookup_head (is_at (key_cmp k)) e t (ap is_eq (alike k e.0 h))

-- what is kept of another key than the first stands behind it
pub kept_later : (k : Key) (e : Key × Held) (t : Table) → is_eq (key_cmp k e.0) ≡ false → kept (e ∷ t) k ≡ kept t k
kept_later k e t h = lookup_tail (is_at (key_cmp k)) e t h

-- the key has what was put
pub put_own_key : (t : Table) (k : Key) (h : Held) → kept (put t k h) k ≡ Some h
put_own_key [] k h = kept_first k (k, h) [] refl
put_own_key (e ∷ t) k h = by (put_own_key t k h) (key_cmp k e.0) refl
  where
    by : kept (put t k h) k ≡ Some h → (r : Ordering) → key_cmp k e.0 ≡ r → kept (put (e ∷ t) k h) k ≡ Some h
    by later Less p = ap (λ u. kept u k) (put_step k h e t Less p) ∙ kept_first k (k, h) (e ∷ t) refl
    by later Equal p = ap (λ u. kept u k) (put_step k h e t Equal p) ∙ kept_first k (e.0, h) t (sym (exact_keys k e.0 p))
    by later Greater p = ap (λ u. kept u k) (put_step k h e t Greater p) ∙ kept_later k e (put t k h) (ap is_eq p) ∙ later

-- a key that differs does not compare alike
pub apart : (q k : Key) → q ≢ k → is_eq (key_cmp q k) ≡ false
apart q k differs = by (key_cmp q k) refl
  where
    by : (r : Ordering) → key_cmp q k ≡ r → is_eq r ≡ false
    by Less p = refl
    by Equal p = absurd (differs (exact_keys q k p))
    by Greater p = refl

-- every other key has what it had
pub put_other_keys : (t : Table) (k : Key) (h : Held) (q : Key) → q ≢ k → kept (put t k h) q ≡ kept t q
put_other_keys [] k h q differs = kept_later q (k, h) [] (apart q k differs)
put_other_keys (e ∷ t) k h q differs = by (put_other_keys t k h q differs) (key_cmp k e.0) refl
  where
    by : kept (put t k h) q ≡ kept t q → (r : Ordering) → key_cmp k e.0 ≡ r → kept (put (e ∷ t) k h) q ≡ kept (e ∷ t) q
    by later Less p = ap (λ u. kept u q) (put_step k h e t Less p) ∙ kept_later q (k, h) (e ∷ t) (apart q k differs)
    by later Equal p =
        let other : is_eq (key_cmp q e.0) ≡ false = apart q e.0 (λ same. differs (same ∙ sym (exact_keys k e.0 p))) in
        ap (λ u. kept u q) (put_step k h e t Equal p) ∙ kept_later q (e.0, h) t other ∙ sym (kept_later q e t other)
    by later Greater p = ap (λ u. kept u q) (put_step k h e t Greater p) ∙ ap (cond (is_at (key_cmp q) e.0) (Some e.1)) later

-- a key that a test of keys finds alike compares with all keys as it
one_class : (k x y : Key) → is_at (key_cmp k) x ≡ true → is_at (key_cmp k) y ≡ eq_by_cmp key_cmp x y
one_class k x y h = (eq_by_cmp_equiv keys_total).congr k x y h

kept_after_strike : (t : Table) → Rising t → (k q : Key) → kept (struck t k) q ≡ cond (is_at (key_cmp k) q) None (kept t q)
kept_after_strike t rising k q = lookup-remove_entry (eq_by_cmp_equiv keys_total) (is_at (key_cmp k)) (one_class k) q t (IsDistinct-from_sorted key_cmp (keys_of t) rising)

-- a struck key is not kept
pub struck_own_key : (t : Table) → Rising t → (k : Key) → kept (struck t k) k ≡ None
struck_own_key t rising k = kept_after_strike t rising k k ∙ ap (λ b. cond b None (kept t k)) (ap is_eq (alike k k refl))

-- every other key has what it had
pub struck_other_keys : (t : Table) → Rising t → (k q : Key) → q ≢ k → kept (struck t k) q ≡ kept t q
struck_other_keys t rising k q differs = kept_after_strike t rising k q ∙ ap (λ b. cond b None (kept t q)) (apart k q (λ same. differs (sym same)))

-- what holds of the keys and of the key that is put holds after it
all_put : (P : Key → Type 0) (t : Table) (k : Key) (h : Held) → P k → AllByRecursion P (keys_of t) → AllByRecursion P (keys_of (put t k h))
all_put P [] k h p a = (p, tt)
all_put P (e ∷ t) k h p a = by (all_put P t k h p a.1) (key_cmp k e.0) refl
  where
    by : AllByRecursion P (keys_of (put t k h)) → (r : Ordering) → key_cmp k e.0 ≡ r → AllByRecursion P (keys_of (put (e ∷ t) k h))
    by later Less c = subst (λ (u : Table). AllByRecursion P (keys_of u)) (sym (put_step k h e t Less c)) (p, a)
    by later Equal c = subst (λ (u : Table). AllByRecursion P (keys_of u)) (sym (put_step k h e t Equal c)) a
    by later Greater c = subst (λ (u : Table). AllByRecursion P (keys_of u)) (sym (put_step k h e t Greater c)) (a.0, later)

-- a key below one that is below all others is below them
all_below : (k e : Key) (ks : List Key) → key_cmp k e ≡ Less → AllByRecursion (λ y. key_cmp e y ≡ Less) ks → AllByRecursion (λ y. key_cmp k y ≡ Less) ks
all_below k e [] h a = tt
all_below k e (y ∷ ks) h a = (keys_total.trans k e y h a.0, all_below k e ks h a.1)

-- the keys rise after putting
pub rising_put : (t : Table) (k : Key) (h : Held) → Rising t → Rising (put t k h)
unfolding IsStrictlySortedBy
rising_put [] k h s = (tt, tt)
rising_put (e ∷ t) k h s = by (rising_put t k h s.1) (key_cmp k e.0) refl
  where
    by : Rising (put t k h) → (r : Ordering) → key_cmp k e.0 ≡ r → Rising (put (e ∷ t) k h)
    by later Less p = subst Rising (sym (put_step k h e t Less p)) ((p, all_below k e.0 (keys_of t) p s.0), s)
    by later Equal p = subst Rising (sym (put_step k h e t Equal p)) s
    by later Greater p = subst Rising (sym (put_step k h e t Greater p)) (all_put (λ y. key_cmp e.0 y ≡ Less) t k h (less_back k e.0 p) s.0, later)

-- what holds of the keys holds of those that stay
all_struck : (P : Key → Type 0) (t : Table) (k : Key) → AllByRecursion P (keys_of t) → AllByRecursion P (keys_of (struck t k))
all_struck P [] k a = tt
all_struck P (e ∷ t) k a = by (all_struck P t k a.1) (is_at (key_cmp k) e.0) refl
  where
    by : AllByRecursion P (keys_of (struck t k)) → (b : Bool) → is_at (key_cmp k) e.0 ≡ b → AllByRecursion P (keys_of (struck (e ∷ t) k))
    by later true c = subst (λ (u : Table). AllByRecursion P (keys_of u)) (sym (struck_step k e t true c)) a.1
    by later false c = subst (λ (u : Table). AllByRecursion P (keys_of u)) (sym (struck_step k e t false c)) (a.0, later)

-- the keys rise after striking
pub rising_struck : (t : Table) (k : Key) → Rising t → Rising (struck t k)
unfolding IsStrictlySortedBy
rising_struck [] k s = tt
rising_struck (e ∷ t) k s = by (rising_struck t k s.1) (is_at (key_cmp k) e.0) refl
  where
    by : Rising (struck t k) → (b : Bool) → is_at (key_cmp k) e.0 ≡ b → Rising (struck (e ∷ t) k)
    by later true c = subst Rising (sym (struck_step k e t true c)) s.1
    by later false c = subst Rising (sym (struck_step k e t false c)) (all_struck (λ y. key_cmp e.0 y ≡ Less) t k s.0, later)

-- no keys rise
pub rising_none : (es : List Entry) → es ≡ [] → Rising (table_of es)
unfolding IsStrictlySortedBy
rising_none es none = subst (λ (l : List Entry). Rising (table_of l)) (sym none) tt
