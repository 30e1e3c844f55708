-- The seven places of a network, with one gate more.
use Rattle.std.proofs.Common.{◌≡◌, ℕ, suc, ◌+◌, ◌-◌, ◌<◌, [], ◌∷◌, ◌++◌, length, set, replicate, sym, refl, ap, ◌∙◌, append_assoc, arith}
use Rattle.std.proofs.lemmas.List.{set_at, length_push}
use Rattle.mig.specs.declared.network.Gate.{Gate}
use Rattle.mig.specs.declared.network.Network.{Network}
use Rattle.mig.specs.Networks.{net_of, network_of, empty_gate}
use Rattle.mig_laws.proofs.Places.{same_network}
use Rattle.enumeration_laws.specs.Prefixes.{with_gate}

-- a gate written behind the gates, into the first empty place
pub gate_written : (network : Network) (g : Gate) (o : ℕ) → network.count < 7 → network ≡ network_of (net_of network)
    → ◌≡◌ {A = Network} (record { count = network.count + 1; gates = set network.gates network.count g; output = o }) (network_of (with_gate (net_of network).gates g o))
gate_written network g o few cleared =
    let before = (net_of network).gates in
    let rest = replicate (7 - (length before + 1)) empty_gate in
    let long : network.count ≡ length before = ap (λ (x : Network). x.count) cleared in
    let e : 7 - length before ≡ suc (7 - (length before + 1)) = omega arith in
    let p = length_push before g in
    same_network (ap (λ m. m + 1) long ∙ sym p)
    (ap (λ (x : Network). set x.gates network.count g) cleared
    ∙ ap (λ m. set (before ++ replicate m empty_gate) network.count g) e
    ∙ set_at before empty_gate rest g network.count (sym long)
    ∙ sym (append_assoc before (g ∷ []) rest)
    ∙ ap (λ m. (before ++ g ∷ []) ++ replicate (7 - m) empty_gate) (sym p))
    refl
