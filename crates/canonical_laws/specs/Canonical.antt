-- Canonical networks: those that an enumeration has to look at.
use Rattle.std.specs.Prelude.{◌≡◌, ℕ, ◌+◌, ◌<◌, ◌≤◌, false, ◌⊎◌, List, [], ◌∷◌}
use Rattle.mig.specs.declared.network.Gate.{Gate}
use Rattle.mig.specs.declared.question.Question.{Question}
use Rattle.mig.specs.Networks.{Net, size, node, complemented, uses}
use Rattle.mig.specs.Normal.{complements}
use Rattle.mig.specs.Questions.{Meets}

-- the three fan-ins name three nodes, in rising order
abbrev pub Rising : Gate → Type 0
Rising g = (node g.first < node g.second) × (node g.second < node g.third)

-- a buffer, which copies a node from b on: the constant, the complemented constant, and the node, not complemented
pub record Buffer (b : ℕ) (g : Gate) : Type 0 where
  pub first : g.first ≡ 0
  pub second : g.second ≡ 1
  pub plain : complemented g.third ≡ false
  pub source : b ≤ node g.third

-- at most one fan-in is complemented, and the nodes rise, or the gate is a buffer of a node from b on
pub record CanonicalGate (b : ℕ) (g : Gate) : Type 0 where
  pub once : complements g ≤ 1
  pub shape : Rising g ⊎ Buffer b g

-- each gate is canonical
unfoldable pub AllCanonical : ℕ → List Gate → Type 0
AllCanonical b [] = Unit {0}
AllCanonical b (g ∷ gs) = CanonicalGate b g × AllCanonical b gs

-- every gate has a use
abbrev pub Used : ℕ → Net → Type 0
Used n net = (j : ℕ) → n < j → j < n + 1 + size net → 1 ≤ uses j net

-- a canonical network over n inputs: each gate is canonical, and a buffer copies a gate; the output is the last gate, or
-- there are no gates; every gate has a use
pub record Canonical (n : ℕ) (net : Net) : Type 0 where
  pub gates : AllCanonical (n + 1) net.gates
  pub last : (size net ≡ 0) ⊎ (node net.output ≡ n + size net)
  pub used : Used n net

-- a canonical network that meets the question, with no more gates than another
pub record CanonicalInstead (question : Question) (net other : Net) : Type 0 where
  pub meets : Meets question other
  pub no_larger : size other ≤ size net
  pub canonical : Canonical question.inputs other
