-- The gates of a network in their places, and those of the renamed one.
use Rattle.std.proofs.Common.{◌≡◌, ℕ, ◌+◌, ◌-◌, ◌≤◌, Bool, cond, List, ◌++◌, map, length, drop, replicate, sym, ◌∙◌, ap₂, arith}
use mir.Val.{bool_byte}
use Rattle.std.specs.List.{All}
use Rattle.std.proofs.lemmas.List.{length-map, drop-replicate}
use Rattle.std.proofs.lemmas.List.Elements.{All-from_get_or}
use Rattle.mig.specs.declared.network.Gate.{Gate}
use Rattle.mig.specs.declared.network.Network.{Network}
use Rattle.mig.specs.Networks.{net_of, network_of, size, empty_gate, GateBelow, Ordered}
use Rattle.mig_laws.proofs.Places.{same_network}
use Rattle.mig_laws.proofs.Steps.{ordered_at}
use Rattle.classes.proofs.Bits.{bit_number}
use Rattle.class_laws.specs.Renaming.{complement_by, rename, rename_gate, rename_net}

-- gates with at most twelve nodes name nodes below twelve
pub gates_below_12 : (m : ℕ) (gs : List Gate) → Ordered m gs → m + length gs ≤ 12 → All (GateBelow 12) gs
gates_below_12 m gs h few =
    All-from_get_or (GateBelow 12) gs empty_gate
    (λ i l. let g = ordered_at m i gs h l in (omega (arith, g.0), omega (arith, g.1), omega (arith, g.2)))

-- the renamed gates in their places, behind them empty ones, and the renamed output, are the renamed network
pub renamed_places : (σ : ℕ → ℕ) (flipped : Bool) (network : Network) (front : List Gate) (empty : Gate) (bit output code : ℕ)
    → size (net_of network) ≡ network.count
    → front ≡ map (rename_gate σ) (net_of network).gates
    → (empty.first ≡ 0) × ((empty.second ≡ 0) × (empty.third ≡ 0))
    → bit ≡ bool_byte flipped
    → code ≡ rename σ network.output
    → output ≡ complement_by bit code
    → ◌≡◌ {A = Network} (record { count = network.count; gates = front ++ drop (size (net_of network)) (replicate 7 empty); output = output })
    (network_of (rename_net σ (cond flipped 1 0) (net_of network)))
renamed_places σ flipped network front empty bit output code full e none b c o =
    let gs = (net_of network).gates in
    let long : network.count ≡ length (map (rename_gate σ) gs) = sym (length-map gs (rename_gate σ) ∙ full) in
    let blank : empty ≡ empty_gate = rw (none.0, none.1.0, none.1.1) in
    let behind : drop (length gs) (replicate 7 empty) ≡ replicate (7 - length (map (rename_gate σ) gs)) empty_gate =
    rw (drop-replicate, blank, length-map gs (rename_gate σ)) in
    same_network long (ap₂ (λ (x y : List Gate). x ++ y) e behind) (o ∙ ap₂ complement_by (b ∙ bit_number flipped) c)
