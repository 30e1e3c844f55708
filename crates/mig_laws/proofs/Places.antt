-- The seven places of a network.
use Rattle.std.proofs.Common.{◌≡◌, ℕ, ◌-◌, List, replicate, refl, ap}
use Rattle.std.proofs.lemmas.List.{take_at}
use Rattle.mig.specs.declared.network.Gate.{Gate}
use Rattle.mig.specs.declared.network.Network.{Network}
use Rattle.mig.specs.Networks.{Net, net_of, network_of, size, empty_gate}

pub same_network : {a b o p : ℕ} {gs hs : List Gate} → a ≡ b → gs ≡ hs → o ≡ p
    → ◌≡◌ {A = Network} (record { count = a; gates = gs; output = o }) (record { count = b; gates = hs; output = p })
same_network e f h = rw (e, f, h)

-- a gate of three codes 0
pub default_gate : (g : Gate) → (g.first ≡ 0) × ((g.second ≡ 0) × (g.third ≡ 0)) → g ≡ empty_gate
default_gate g h = same h.0 h.1.0 h.1.1
  where
    same : {a b c : ℕ} → a ≡ 0 → b ≡ 0 → c ≡ 0 → ◌≡◌ {A = Gate} (record { first = a; second = b; third = c }) empty_gate
    same e f h = rw (e, f, h)

-- the network that the places stand for, written into places, and back
pub net_of-network_of : (net : Net) → net_of (network_of net) ≡ net
net_of-network_of net =
    ap (λ (gs : List Gate). with_gates gs) (take_at net.gates (replicate (7 - size net) empty_gate) (size net) refl)
  where
    with_gates : List Gate → Net
    with_gates gs = record { gates = gs; output = net.output }
