-- The seven places of a network.
use Rattle.std.proofs.Common.{◌≡◌, ℕ, ◌+◌, ◌-◌, ◌<◌, List, ◌++◌, map, length, get_or, take, drop, set, replicate, sym, refl, ap, ◌∙◌, ap₂, arith}
use Rattle.std.proofs.lemmas.List.{set-append_left, drop_at, length-map, length-set, get_or_append_left, get_or-take}
use Rattle.mig.specs.declared.network.Gate.{Gate}
use Rattle.mig.specs.declared.network.Network.{Network}
use Rattle.mig.specs.Networks.{Net, net_of, network_of, size, empty_gate}
use Rattle.mig.specs.Normal.{flip, flip_naming, map_gate, gate_at, turned}
use Rattle.mig_laws.proofs.Places.{same_network}

-- a gate is read from its place
pub gate_read : (net : Net) (i : ℕ) → i < size net → get_or (network_of net).gates i empty_gate ≡ gate_at net i
gate_read net i h = get_or_append_left net.gates (replicate (7 - size net) empty_gate) empty_gate i h

-- turning a gate, in the places
pub turned_places : (n i : ℕ) (network : Network) → i < network.count → network ≡ network_of (net_of network)
    → ◌≡◌ {A = Network}
    (record {
      count = network.count;
      gates = set (map (map_gate (flip_naming (n + 1 + i))) (take network.count network.gates) ++ drop network.count network.gates) i (map_gate flip (get_or network.gates i empty_gate));
      output = flip_naming (n + 1 + i) network.output;
    })
    (network_of (turned n i (net_of network)))
turned_places n i network h e =
    let f = map_gate (flip_naming (n + 1 + i)) in
    let k = network.count in
    let front = take k network.gates in
    let gate = map_gate flip (gate_at (net_of network) i) in
    let c : k ≡ length front = ap (λ (x : Network). x.count) e in
    let behind : drop k network.gates ≡ replicate (7 - length front) empty_gate =
    ap (λ (x : Network). drop k x.gates) e ∙ drop_at front (replicate (7 - length front) empty_gate) k (sym c) in
    let read : map_gate flip (get_or network.gates i empty_gate) ≡ gate = ap (map_gate flip) (sym (get_or-take k network.gates i empty_gate h)) in
    let long : length (set (map f front) i gate) ≡ length front = length-set (map f front) i gate ∙ length-map front f in
    same_network (c ∙ sym long)
    (ap₂ (λ (xs : List Gate) (g : Gate). set (map f front ++ xs) i g) behind read
    ∙ set-append_left (map f front) (replicate (7 - length front) empty_gate) i gate (omega (arith, length-map front f))
    ∙ ap (λ (m : ℕ). set (map f front) i gate ++ replicate (7 - m) empty_gate) (sym long))
    refl
