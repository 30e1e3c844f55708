-- The uses of a node, counted one after another.
use Rattle.std.specs.Prelude.{ℕ, ◌+◌, Bool, List, [], ◌∷◌, ◌++◌}
use Rattle.mig.specs.declared.network.Gate.{Gate}
use Rattle.mig.specs.Networks.{names}
use Rattle.assignment_writer.specs.Said.{below}

-- for each fan-in of each gate, 1 if it names the node j, else 0
unfoldable pub names_in : ℕ → List Gate → List ℕ
names_in j [] = []
names_in j (g ∷ gs) = names j g.first ∷ (names j g.second ∷ (names j g.third ∷ names_in j gs))

-- for each use after a count, which of the numbers from 1 up to f the count with it has reached
unfoldable pub counted : ℕ → ℕ → List ℕ → List Bool
counted f count [] = []
counted f count (x ∷ later) = below f (count + x) ++ counted f (count + x) later
