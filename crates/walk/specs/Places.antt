-- The places of a walk, a value for each node.
use Rattle.std.specs.Prelude.{ℕ, List, ◌∷◌, take, drop}
use Rattle.mig.specs.Networks.{Kind}

-- the values of the constant and of the first n inputs, which stand in places 1 to n
abbrev pub start_of : {V : Type 0} → Kind V → ℕ → List V → List V
start_of k n places = k.constant ∷ take n (drop 1 places)
