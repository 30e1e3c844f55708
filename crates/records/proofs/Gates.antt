-- The gates of codes: place by place, and of the codes that spell gates.
use Rattle.std.proofs.Common.{◌≡◌, ℕ, zero, suc, ◌+◌, ◌-◌, ◌*◌, ◌<◌, ◌≤◌, List, [], ◌∷◌, ◌++◌, length, take, replicate, refl, sym, ap, ◌∙◌, append_assoc, append-nil, arith, length-append}
use Rattle.std.specs.Prelude.{slice_set}
use Rattle.std.specs.List.{flat_map}
use Rattle.std.proofs.lemmas.List.{take_more_set, take_all, length-take-le}
use Rattle.mig.specs.declared.network.Gate.{Gate}
use Rattle.mig.specs.Networks.{empty_gate}
use Rattle.records.specs.Records.{first_gate, gates_from, gate_codes}

-- the next place has the first gate of the codes that are left
gates_step : (i : ℕ) (codes : List ℕ) → i < 7
    → gates_from (7 - i) codes ≡ (first_gate codes).0 ∷ gates_from (7 - (i + 1)) (first_gate codes).1
unfolding gates_from
gates_step i codes below = let k : 7 - i ≡ suc (7 - (i + 1)) = omega arith in rw k refl

-- a place is written, and the codes of its gate are passed over
pub place_written : (places : List Gate) (i : ℕ) (codes : List ℕ) (all : List Gate) → i < 7 → length places ≡ 7
    → take i places ++ gates_from (7 - i) codes ≡ all
    → take (i + 1) (slice_set places i (first_gate codes).0) ++ gates_from (7 - (i + 1)) (first_gate codes).1 ≡ all
place_written places i codes all below seven so_far =
    let g = (first_gate codes).0 in
    let later = gates_from (7 - (i + 1)) (first_gate codes).1 in
    let short : i < length places = omega arith in
    let front : take (i + 1) (slice_set places i g) ≡ take i places ++ (g ∷ []) = take_more_set places i g short in
    let e : (take i places ++ (g ∷ [])) ++ later ≡ take i places ++ (g ∷ later) = append_assoc (take i places) (g ∷ []) later in
    ap (λ (gs : List Gate). gs ++ later) front ∙ e ∙ ap (λ (gs : List Gate). take i places ++ gs) (sym (gates_step i codes below)) ∙ so_far

-- all places are written
pub places_written : (places : List Gate) (i : ℕ) (codes : List ℕ) (all : List Gate) → 7 ≤ i → length places ≡ 7
    → take i places ++ gates_from (7 - i) codes ≡ all → places ≡ all
unfolding gates_from
places_written places i codes all done seven so_far =
    let k : 7 - i ≡ 0 = omega arith in
    let none : gates_from (7 - i) codes ≡ [] = rw k refl in
    let front : take i places ≡ places = take_all i places (omega arith) in
    sym (ap (λ (gs : List Gate). take i places ++ gs) none ∙ append-nil (take i places) ∙ front) ∙ so_far

-- three codes for each gate
pub codes_length : (gs : List Gate) → length (flat_map gate_codes gs) ≡ 3 * length gs
codes_length [] = refl
codes_length (g ∷ gs) = let h = codes_length gs in omega arith

-- no codes are left
gates_from-nil : (m : ℕ) → gates_from m [] ≡ replicate m empty_gate
unfolding gates_from
gates_from-nil zero = refl
gates_from-nil (suc m) = ap (λ (gs : List Gate). empty_gate ∷ gs) (gates_from-nil m)

-- the codes of gates spell these gates, and 0 in the places behind them
pub gates_spelled : (m : ℕ) (gs : List Gate) → length gs ≤ m
    → gates_from m (flat_map gate_codes gs) ≡ gs ++ replicate (m - length gs) empty_gate
unfolding gates_from
gates_spelled m [] few = let k : m - 0 ≡ m = omega arith in rw k (gates_from-nil m)
gates_spelled zero (g ∷ gs) few = absurd (omega arith)
gates_spelled (suc m) (g ∷ gs) few =
    let k : suc m - suc (length gs) ≡ m - length gs = omega arith in
    rw k (ap (λ (hs : List Gate). g ∷ hs) (gates_spelled m gs (omega arith)))

-- how many bytes stand when the codes of i gates stand behind a start
pub standing : (start written : List ℕ) (i : ℕ) (gates : List Gate) → i ≤ length gates
    → written ≡ start ++ flat_map gate_codes (take i gates) → length written ≡ length start + 3 * i
standing start written i gates within e =
    let n : length (take i gates) ≡ i = length-take-le i gates within in
    omega (arith, ap length e, length-append start (flat_map gate_codes (take i gates)), codes_length (take i gates))
