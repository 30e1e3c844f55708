-- Majority networks of any number of gates, their values in any kind, levels and fan-outs.
use Rattle.std.specs.Prelude.{◌≡◌, ℕ, zero, suc, ◌+◌, ◌-◌, ◌/◌, ◌%◌, ◌<◌, max, Bool, true, false, cond, not, List, [], ◌∷◌, ◌++◌, length, take, replicate, ◌==◌, slice_index_or}
use Rattle.mig.specs.declared.network.Gate.{Gate}
use Rattle.mig.specs.declared.network.Network.{Network}

-- A network: a list of gates of any length, and the output's code.
-- Node 0 is the constant 0, nodes 1 to n are the inputs, and the gates follow in their order.
pub record Net : Type 0 where
  pub gates : List Gate
  pub output : ℕ

-- the number of gates
abbrev pub size : Net → ℕ
size net = length net.gates

-- the network that a value of seven places stands for: its first `count` rows
abbrev pub net_of : Network → Net
net_of network = record { gates = take network.count network.gates; output = network.output }

-- the gate of three codes 0
abbrev pub empty_gate : Gate
empty_gate = record { first = 0; second = 0; third = 0 }

-- the value of seven places that stands for a network of at most seven gates; the places behind its gates are 0
abbrev pub network_of : Net → Network
network_of net =
    record { count = size net; gates = net.gates ++ replicate (7 - size net) empty_gate; output = net.output }

-- the node that a code names
abbrev pub node : ℕ → ℕ
node c = c / 2

-- a code is complemented
abbrev pub complemented : ℕ → Bool
complemented c = c % 2 == 1

-- a kind of values: the value of the constant 0, the complement, the majority
pub record Kind (V : Type 0) : Type 0 where
  pub constant : V
  pub complement : V → V
  pub majority : V → V → V → V

-- the laws of a kind: complementing twice gives the value back, complementing all three complements the majority
pub record Lawful {V : Type 0} (k : Kind V) : Type 0 where
  pub twice : (x : V) → k.complement (k.complement x) ≡ x
  pub all : (x y z : V) → k.majority (k.complement x) (k.complement y) (k.complement z) ≡ k.complement (k.majority x y z)

-- what a code stands for, of the values of the nodes
abbrev pub value_at : {V : Type 0} → Kind V → List V → ℕ → V
value_at k vs c = cond (complemented c) (k.complement (slice_index_or vs (node c) k.constant)) (slice_index_or vs (node c) k.constant)

-- the value of a gate: the majority of its three fan-ins
abbrev pub gate_value : {V : Type 0} → Kind V → List V → Gate → V
gate_value k vs g = k.majority (value_at k vs g.first) (value_at k vs g.second) (value_at k vs g.third)

-- the walk: from the values of the constant and the inputs, the value of every node
unfoldable pub walk : {V : Type 0} → Kind V → List V → List Gate → List V
walk k vs [] = vs
walk k vs (g ∷ gs) = walk k (vs ++ (gate_value k vs g ∷ [])) gs

-- the value of the output, from the values of the constant and the inputs
abbrev pub output_value : {V : Type 0} → Kind V → List V → Net → V
output_value k vs net = value_at k (walk k vs net.gates) net.output

-- each fan-in of a gate names a node below m
abbrev pub GateBelow : ℕ → Gate → Type 0
GateBelow m g = (node g.first < m) × (node g.second < m) × (node g.third < m)

-- each gate names earlier nodes only, where m nodes stand before the first
unfoldable pub Ordered : ℕ → List Gate → Type 0
Ordered m [] = Unit {0}
Ordered m (g ∷ gs) = GateBelow m g × Ordered (m + 1) gs

-- a well-formed network over n inputs: fan-ins name earlier nodes, the output names a node
pub record Formed (n : ℕ) (net : Net) : Type 0 where
  pub gates : Ordered (n + 1) net.gates
  pub output : node net.output < n + 1 + size net

-- how often a code names the node j: 1 or 0
abbrev pub names : ℕ → ℕ → ℕ
names j c = cond (node c == j) 1 0

-- how many fan-ins name the node j
unfoldable pub uses_in : ℕ → List Gate → ℕ
uses_in j [] = 0
uses_in j (g ∷ gs) = (names j g.first + names j g.second + names j g.third) + uses_in j gs

-- the fan-out of the node j: the fan-in codes and the output code that name it
abbrev pub uses : ℕ → Net → ℕ
uses j net = uses_in j net.gates + names j net.output

-- the greatest of f 0, f 1 .. f (k - 1); 0 if k is 0
unfoldable pub greatest : ℕ → (ℕ → ℕ) → ℕ
greatest zero f = 0
greatest (suc k) f = max (greatest k f) (f k)

-- the greatest fan-out of a gate; 0 without gates
abbrev pub greatest_fan_out : ℕ → Net → ℕ
greatest_fan_out n net = greatest (size net) (λ i. uses (n + 1 + i) net)

-- the majority of three bits
abbrev pub majority : Bool → Bool → Bool → Bool
majority x y z = cond x (cond y true z) (cond y z false)

-- the kind of the bit of one row
abbrev pub bits : Kind Bool
bits = record { constant = false; complement = not; majority = majority }

-- the kind of the level: complements leave it, a gate is one above the greatest of its fan-ins
abbrev pub levels : Kind ℕ
levels = record { constant = 0; complement = λ x. x; majority = λ x y z. 1 + max x (max y z) }
