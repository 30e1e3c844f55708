-- Where a key stands among entries, or would stand.
use Rattle.std.specs.Prelude.{◌≡◌, ℕ, zero, suc, ⊤, List, [], ◌∷◌}
use Rattle.std.specs.declared.cmp.Ordering.TheVariants.{Less, Greater}
use Rattle.filing.specs.declared.key.Key.{Key}
use Rattle.filing.specs.Filing.{key_cmp}
use Rattle.entry.specs.declared.entry.Entry.{Entry}

-- the key stands at place i, and the keys before are less
unfoldable pub StandsAt : Key → List Entry → ℕ → Type 0
StandsAt k [] i = ⊥
StandsAt k (e ∷ es) zero = e.key ≡ k
StandsAt k (e ∷ es) (suc i) = (key_cmp k e.key ≡ Greater) × StandsAt k es i

-- the key would stand at place i: the keys before are less, and the one there, if any, is greater
unfoldable pub FitsAt : Key → List Entry → ℕ → Type 0
FitsAt k [] zero = ⊤
FitsAt k [] (suc i) = ⊥
FitsAt k (e ∷ es) zero = key_cmp k e.key ≡ Less
FitsAt k (e ∷ es) (suc i) = (key_cmp k e.key ≡ Greater) × FitsAt k es i
