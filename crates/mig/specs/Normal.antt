-- The normal form of a network: no gate has more than one complemented fan-in.
use Rattle.std.specs.Prelude.{◌≡◌, ℕ, zero, suc, ◌+◌, ◌-◌, ◌*◌, ◌%◌, ◌<◌, ◌≤◌, cond, map, replicate, ◌==◌, nat_le, slice_index_or, slice_set}
use Rattle.mig.specs.declared.network.Gate.{Gate}
use Rattle.mig.specs.Networks.{Net, size, node, complemented, empty_gate, walk, levels, uses}
use Rattle.mig.specs.Questions.{level}

-- the code of the same node with the other complement
abbrev pub flip : ℕ → ℕ
flip c = 2 * node c + (1 - c % 2)

-- the code, flipped if it names the node m
abbrev pub flip_naming : ℕ → ℕ → ℕ
flip_naming m c = cond (node c == m) (flip c) c

-- the gate with each of its three codes changed
abbrev pub map_gate : (ℕ → ℕ) → Gate → Gate
map_gate f g = record { first = f g.first; second = f g.second; third = f g.third }

-- how many of a gate's fan-ins are complemented
abbrev pub complements : Gate → ℕ
complements g = cond (complemented g.first) 1 0 + cond (complemented g.second) 1 0 + cond (complemented g.third) 1 0

-- the gate at a place, counted from 0
abbrev pub gate_at : Net → ℕ → Gate
gate_at net i = slice_index_or net.gates i empty_gate

-- no gate has more than one complemented fan-in
abbrev pub Normal : Net → Type 0
Normal net = (i : ℕ) → i < size net → complements (gate_at net i) ≤ 1

-- the three fan-ins of gate i flipped, and every code that names the gate, over n inputs
abbrev pub turned : ℕ → ℕ → Net → Net
turned n i net =
    record {
      gates = slice_set (map (map_gate (flip_naming (n + 1 + i))) net.gates) i (map_gate flip (gate_at net i));
      output = flip_naming (n + 1 + i) net.output;
    }

-- gate i is turned if two or three of its fan-ins are complemented
abbrev pub gate_normalised : ℕ → ℕ → Net → Net
gate_normalised n i net = cond (nat_le 2 (complements (gate_at net i))) (turned n i net) net

-- the first i gates normalised, from the first on
unfoldable pub first_normalised : ℕ → ℕ → Net → Net
first_normalised n zero net = net
first_normalised n (suc i) net = gate_normalised n i (first_normalised n i net)

-- the network over n inputs normalised
abbrev pub normalised : ℕ → Net → Net
normalised n net = first_normalised n (size net) net

-- the gates and the outputs of the two networks name the same nodes, place by place
pub record SameNodes (net other : Net) : Type 0 where
  pub gates : map (map_gate node) other.gates ≡ map (map_gate node) net.gates
  pub output : node other.output ≡ node net.output

-- the same nodes at every place, so the same number of gates, and the same level and fan-out for every node
pub record SameShape (n : ℕ) (net other : Net) : Type 0 where
  pub nodes : SameNodes net other
  pub gates : size other ≡ size net
  pub levels : walk levels (replicate (n + 1) 0) other.gates ≡ walk levels (replicate (n + 1) 0) net.gates
  pub level : level n other ≡ level n net
  pub fan_outs : (j : ℕ) → uses j other ≡ uses j net
