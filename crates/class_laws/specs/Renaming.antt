-- A network with the codes of its nodes replaced.
use Rattle.std.specs.Prelude.{◌≡◌, ℕ, ◌+◌, ◌*◌, ◌/◌, ◌%◌, ◌<◌, Bool, cond, not, map, replicate, slice_index}
use Rattle.mig.specs.declared.network.Gate.{Gate}
use Rattle.mig.specs.Networks.{Net, Formed, size, node, walk, levels, uses}
use Rattle.mig.specs.Questions.{level}
use Rattle.mig.specs.Normal.{map_gate}

-- the bit b, complemented if a is true
abbrev pub differ : Bool → Bool → Bool
differ a b = cond a (not b) b

-- the code s, complemented once more if b is odd
abbrev pub complement_by : ℕ → ℕ → ℕ
complement_by b s = 2 * (s / 2) + (s + b) % 2

-- the code c, where the node j is replaced by the code σ j: the complements add up
abbrev pub rename : (ℕ → ℕ) → ℕ → ℕ
rename σ c = complement_by c (σ (node c))

-- the gate with each code replaced
abbrev pub rename_gate : (ℕ → ℕ) → Gate → Gate
rename_gate σ = map_gate (rename σ)

-- the network with each code replaced, and the output complemented once more if o is odd
abbrev pub rename_net : (ℕ → ℕ) → ℕ → Net → Net
rename_net σ o net = record { gates = map (rename_gate σ) net.gates; output = complement_by o (rename σ net.output) }

-- the network over n inputs and the other over m have as many gates, and gate by gate the same levels and fan-outs
pub record SameGates (n m : ℕ) (net other : Net) : Type 0 where
  pub formed : Formed m other
  pub gates : size other ≡ size net
  pub level : level m other ≡ level n net
  pub gate_levels : (i : ℕ) → i < size net
      → slice_index (walk levels (replicate (m + 1) 0) other.gates) (m + 1 + i) ≡ slice_index (walk levels (replicate (n + 1) 0) net.gates) (n + 1 + i)
  pub fan_outs : (i : ℕ) → uses (m + 1 + i) other ≡ uses (n + 1 + i) net
