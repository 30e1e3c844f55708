-- A list of gates is well-formed in one way: so what is kept of networks may stand in the types.
use Rattle.std.specs.Prelude.{ℕ, ◌+◌, List, [], ◌∷◌}
use mathlib.Core.HLevel.{Unit-prop, ×_prop}
use denote.Struct.Props as logic
use Rattle.mig.specs.declared.network.Gate.{Gate}
use Rattle.mig.specs.Networks.{Ordered, GateBelow}

below_prop : (m : ℕ) (g : Gate) → IsProp (GateBelow m g)
below_prop m g = Prim.hlevel logic.props

pub ordered_prop : (m : ℕ) (gs : List Gate) → IsProp (Ordered m gs)
unfolding Ordered
ordered_prop m [] = Unit-prop
ordered_prop m (g ∷ gs) = ×_prop (below_prop m g) (ordered_prop (m + 1) gs)
