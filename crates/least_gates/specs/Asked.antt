-- What asking with more and more gates shows.
use Rattle.std.specs.Prelude.{◌≡◌, ℕ, ◌+◌, ◌-◌, ◌<◌, ◌≤◌, max, MatchResult}
use Rattle.mig.specs.declared.network.Network.{Network}
use Rattle.mig.specs.declared.question.Question.{Question}
use Rattle.search.specs.Meaning.{NoneWithin, Holds}
use Rattle.least_gates.specs.declared.Asked.{Asked}

-- no network has as many gates as one of the numbers from one to another, the last left out, or fewer
abbrev pub NoneFrom : Question → ℕ → ℕ → Type 0
NoneFrom q from end = (r : ℕ) → from ≤ r → r < end → NoneWithin q r

-- a network of at most `lower` gates is found: in the place, after "none" at each number before
pub record FoundAt (q : Question) (from end lower times : ℕ) (place' : Network) : Type 0 where
  pub holds : Holds q lower place'
  pub not_below : from ≤ lower
  pub below : lower < end
  pub none_before : NoneFrom q from lower
  pub all_counted : times ≡ lower + 1 - from

-- "none" at every number
pub record NoneFound (q : Question) (from end lower times : ℕ) (place place' : Network) : Type 0 where
  pub unchanged : place' ≡ place
  pub known : lower ≡ max from end
  pub none : NoneFrom q from end
  pub all_counted : times ≡ end - from

-- what asking from one number on, below another, has shown
abbrev pub AskedBelow : Question → ℕ → ℕ → Network → Network → Asked → Type 0
AskedBelow q from end place place' a =
    MatchResult a.least (λ lower. FoundAt q from end lower a.times place')
    (λ lower. NoneFound q from end lower a.times place place')
