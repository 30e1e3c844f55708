-- The bytes of a network, and the network that bytes spell.
use Rattle.std.proofs.Common.{◌≡◌, ℕ, zero, suc, ◌+◌, ◌*◌, ◌≤◌, get_or, List, [], ◌∷◌, ◌++◌, length, take, drop, Some, refl, sym, ap, ◌∙◌, subst, arith, length-append, inl, inr}
use Rattle.std.specs.List.{flat_map}
use Rattle.std.proofs.Math.Seq.{get_or-append_seam, drop-cons}
use Rattle.std.proofs.lemmas.Bool.{eq-eqb}
use Rattle.std.proofs.lemmas.Bool.Decides.{eqb_tells}
use Rattle.std.proofs.lemmas.List.{take_at, drop_all, take-append-drop, length-take-le}
use Rattle.mig.specs.declared.network.Network.{Network}
use Rattle.mig.specs.Networks.{Net, size, net_of, network_of}
use Rattle.mig_laws.proofs.Places.{same_network}
use Rattle.records.specs.Reading.{network_spelled}
use Rattle.records.specs.Records.{first_gate, gates_from, network_at, network_bytes, gate_codes}
use Rattle.records.proofs.Gates.{codes_length, gates_spelled}

-- the codes of a network's gates, and its output's code
abbrev network_codes : Net → List ℕ
network_codes net = flat_map gate_codes net.gates ++ (net.output ∷ [])

pub codes_number : (net : Net) → length (flat_map gate_codes net.gates ++ (net.output ∷ [])) ≡ 3 * size net + 1
codes_number net = omega (arith, codes_length net.gates, length-append (flat_map gate_codes net.gates) (net.output ∷ []))

-- the codes spell the network
network_again : (net : Net) → size net ≤ 7 → network_at (size net) (network_codes net) ≡ network_of net
network_again net few =
    let k = codes_length net.gates in
    let front : take (3 * size net) (network_codes net) ≡ flat_map gate_codes net.gates =
    take_at (flat_map gate_codes net.gates) (net.output ∷ []) (3 * size net) k in
    let last : get_or (network_codes net) (3 * size net) 0 ≡ net.output =
    rw (← k) (get_or-append_seam (flat_map gate_codes net.gates) net.output [] 0) in
    same_network refl (rw front (gates_spelled 7 net.gates few)) last

-- the bytes of a network spell it
pub spelled_again : (net : Net) → size net ≤ 7 → network_spelled (network_bytes net) ≡ Some (network_of net)
spelled_again net few = rw (eq-eqb _ _ (codes_number net), network_again net few) refl

-- the codes of k gates that 3k codes spell
gates_again : (m k : ℕ) (codes : List ℕ) → k ≤ m → length codes ≡ 3 * k → flat_map gate_codes (take k (gates_from m codes)) ≡ codes
unfolding gates_from
gates_again m zero [] few e = refl
gates_again m zero (a ∷ codes) few e = absurd (omega arith)
gates_again zero (suc k) codes few e = absurd (omega arith)
gates_again (suc m) (suc k) [] few e = absurd (omega arith)
gates_again (suc m) (suc k) (a ∷ []) few e = absurd (omega arith)
gates_again (suc m) (suc k) (a ∷ b ∷ []) few e = absurd (omega arith)
gates_again (suc m) (suc k) (a ∷ b ∷ c ∷ codes) few e =
    ap (λ (cs : List ℕ). a ∷ (b ∷ (c ∷ cs))) (gates_again m k codes (omega arith) (omega arith))

places_number : (m : ℕ) (codes : List ℕ) → length (gates_from m codes) ≡ m
unfolding gates_from
places_number zero codes = refl
places_number (suc m) codes = let h = places_number m (first_gate codes).1 in omega arith

-- 3k + 1 codes behind k are the bytes of the network that they spell
codes_again : (k : ℕ) (codes : List ℕ) → k ≤ 7 → length codes ≡ 3 * k + 1 → k ∷ codes ≡ network_bytes (net_of (network_at k codes))
codes_again k codes few e =
    let front = take (3 * k) codes in
    let last = get_or codes (3 * k) 0 in
    let back : drop (3 * k) codes ≡ last ∷ [] =
    drop-cons codes (3 * k) 0 (omega arith) ∙ ap (λ (cs : List ℕ). last ∷ cs) (drop_all (suc (3 * k)) codes (omega arith)) in
    let whole : codes ≡ front ++ (last ∷ []) = sym (take-append-drop (3 * k) codes) ∙ ap (λ (cs : List ℕ). front ++ cs) back in
    let gates : flat_map gate_codes (take k (gates_from 7 front)) ≡ front =
    gates_again 7 k front few (length-take-le (3 * k) codes (omega arith)) in
    let number : length (take k (gates_from 7 front)) ≡ k =
    length-take-le k (gates_from 7 front) (omega (arith, places_number 7 front)) in
    rw (gates, number) (ap (λ (cs : List ℕ). k ∷ cs) whole)

-- what bytes spell has these bytes
pub bytes_again : (bytes : List ℕ) (network : Network) → network_spelled bytes ≡ Some network → network.count ≤ 7
    → bytes ≡ network_bytes (net_of network)
bytes_again [] network e few = absurd cc
bytes_again (k ∷ codes) network e few =
    elim (eqb_tells (length codes) (3 * k + 1)) [
      | inl same ↦
          let n : network_at k codes ≡ network = let h = rw same.0 at e in cc in
          let P : Network → Type 0 = λ m. m.count ≤ 7 → k ∷ codes ≡ network_bytes (net_of m) in
          subst P n (λ f. codes_again k codes f same.1) few
      | inr other ↦ let h = rw other.0 at e in absurd cc
    ]
