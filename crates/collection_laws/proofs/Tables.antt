-- Tables in which what is kept of every key is right.
use Rattle.std.proofs.Common.{◌≡◌, cond, [], ◌∷◌, Some, refl, sym, subst, arith}
use Rattle.std.specs.declared.cmp.Ordering.{Ordering}
use Rattle.std.specs.declared.cmp.Ordering.TheVariants.{Less, Equal, Greater}
use Rattle.std.specs.Ordering.{match_ordering, is_eq}
use Rattle.filing.specs.declared.key.Key.{Key}
use Rattle.filing.specs.Filing.{key_cmp}
use Rattle.entry.specs.Held.{Held, nothing, Sound}
use Rattle.entries.specs.Table.{Table, kept, held_or, kept_or_new, put, struck}
use Rattle.entries.proofs.Keys.{exact_keys}
use Rattle.collection_laws.specs.Law.{SoundTable}

-- what is put of a key is right
pub sound_put : (t : Table) (k : Key) (h : Held) → SoundTable t → Sound k h → SoundTable (put t k h)
sound_put [] k h all sound = (sound, tt)
sound_put (e ∷ es) k h all sound = at (sound_put es k h all.1 sound) (key_cmp k e.0) refl
  where
    at : SoundTable (put es k h) → (o : Ordering) → key_cmp k e.0 ≡ o → SoundTable (match_ordering o ((k, h) ∷ e ∷ es) ((e.0, h) ∷ es) (e ∷ put es k h))
    at rest Less p = (sound, all)
    at rest Equal p = (subst (λ x. Sound x h) (exact_keys k e.0 p) sound, all.1)
    at rest Greater p = (all.0, rest)

-- what is left is right
pub sound_struck : (t : Table) (k : Key) → SoundTable t → SoundTable (struck t k)
sound_struck [] k all = tt
sound_struck (e ∷ es) k all = at (sound_struck es k all.1) (key_cmp k e.0)
  where
    at : SoundTable (struck es k) → (o : Ordering) → SoundTable (cond (is_eq o) es (e ∷ struck es k))
    at rest Less = (all.0, rest)
    at rest Equal = all.1
    at rest Greater = (all.0, rest)

-- nothing that is known is right
sound_nothing : (k : Key) → Sound k nothing
sound_nothing k = record { lower_bound = λ net h. omega arith; keepable = tt }

-- what is kept of a key is right
pub sound_kept : (t : Table) (k : Key) → SoundTable t → Sound k (kept_or_new t k)
sound_kept [] k all = sound_nothing k
sound_kept (e ∷ es) k all = at (sound_kept es k all.1) (key_cmp k e.0) refl
  where
    at : Sound k (kept_or_new es k) → (o : Ordering) → key_cmp k e.0 ≡ o → Sound k (held_or (cond (is_eq o) (Some e.1) (kept es k)))
    at rest Less p = rest
    at rest Equal p = subst (λ x. Sound x e.1) (sym (exact_keys k e.0 p)) all.0
    at rest Greater p = rest
