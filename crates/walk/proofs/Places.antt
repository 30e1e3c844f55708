-- The places of a walk: the constant in place 0, the inputs behind it, the gates behind them.
use Rattle.std.proofs.Common.{◌≡◌, ℕ, ◌+◌, ◌<◌, ◌≤◌, List, [], ◌∷◌, ◌++◌, length, take, drop, set, ap, ◌∙◌, ap₂, add-one, arith}
use Rattle.std.proofs.lemmas.List.{drop-set-lt, length-drop, length-take-le}
use Rattle.mig.specs.Networks.{Net, Kind, size, node, walk, value_at, output_value}
use Rattle.mig_laws.proofs.Walks.{length-walk}
use Rattle.mig_laws.proofs.Steps.{value_front}
use Rattle.walk.specs.Places.{start_of}

pub length_start : {V : Type 0} (k : Kind V) (n : ℕ) (places : List V) → n + 1 ≤ length places → length (start_of k n places) ≡ n + 1
length_start k n places h =
    let d = length-drop 1 places in
    omega (arith, length-take-le n (drop 1 places) (omega arith))

-- the first places, once the constant is in place 0
first_places : {V : Type 0} (k : Kind V) (n : ℕ) (places : List V) (zero : V) → zero ≡ k.constant → n + 1 ≤ length places
    → take (n + 1) (set places 0 zero) ≡ start_of k n places
first_places k n [] zero e h = absurd (omega arith)
first_places k n (v ∷ vs) zero e h = rw (add-one n, e)

-- what a walk leaves in the places
pub walked_places : {V : Type 0} (k : Kind V) (n m : ℕ) (net : Net) (places after : List V) (zero : V) → zero ≡ k.constant → n + 1 ≤ length places
    → after ≡ walk k (take (n + 1) (set places 0 zero)) net.gates ++ drop (n + 1 + m) (set places 0 zero)
    → after ≡ walk k (start_of k n places) net.gates ++ drop (n + 1 + m) places
walked_places k n m net places after zero e h w =
    w ∙ ap₂ (λ vs ws. walk k vs net.gates ++ ws) (first_places k n places zero e h) (drop-set-lt (n + 1 + m) places 0 zero (omega arith))

-- the output's value is read off the places
pub output_read : {V : Type 0} (k : Kind V) (n m : ℕ) (net : Net) (places after : List V) → n + 1 ≤ length places → node net.output < n + 1 + size net
    → after ≡ walk k (start_of k n places) net.gates ++ drop (n + 1 + m) places
    → value_at k after net.output ≡ output_value k (start_of k n places) net
output_read k n m net places after h o w =
    let us = walk k (start_of k n places) net.gates in
    ap (λ vs. value_at k vs net.output) w
    ∙ value_front k us (drop (n + 1 + m) places) net.output (omega (arith, length-walk k (start_of k n places) net.gates, length_start k n places h))
