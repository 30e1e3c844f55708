-- The values of the nodes with one gate more, in any kind.
use Rattle.std.proofs.Common.{◌≡◌, ℕ, ◌+◌, ◌*◌, ◌/◌, ◌%◌, ◌<◌, true, false, eqb, List, [], ◌∷◌, ◌++◌, length, get_or, ap, ◌∙◌, arith}
use Rattle.std.proofs.lemmas.List.{get_or_push}
use Rattle.std.proofs.lemmas.Bool.{eq-eqb, ne_eqb}
use Rattle.mig.specs.declared.network.Gate.{Gate}
use Rattle.mig.specs.Networks.{Kind, node, value_at, gate_value, walk}
use Rattle.mig_laws.proofs.Walks.{walk-append, length-walk}
use Rattle.mig_laws.proofs.Steps.{value_front}

-- what the two codes of a node stand for
plain_code : {V : Type 0} (k : Kind V) (vs : List V) (m : ℕ) → value_at k vs (2 * m) ≡ get_or vs m k.constant
plain_code k vs m =
    let i : 2 * m / 2 ≡ m = omega arith in
    let p : eqb (2 * m % 2) 1 ≡ false = ne_eqb (2 * m % 2) 1 (λ e. omega arith) in
    rw (p, i)

complemented_code : {V : Type 0} (k : Kind V) (vs : List V) (m : ℕ) → value_at k vs (2 * m + 1) ≡ k.complement (get_or vs m k.constant)
complemented_code k vs m =
    let i : (2 * m + 1) / 2 ≡ m = omega arith in
    let p : eqb ((2 * m + 1) % 2) 1 ≡ true = eq-eqb ((2 * m + 1) % 2) 1 (omega arith) in
    rw (p, i)

-- the walk over m nodes and one gate more
module _ {V : Type 0} (k : Kind V) (start : List V) (gates : List Gate) (g : Gate) (m : ℕ) (nodes : length start + length gates ≡ m) where
  one_more : walk k start (gates ++ g ∷ []) ≡ walk k start gates ++ gate_value k (walk k start gates) g ∷ []
  unfolding walk
  one_more = walk-append k start gates (g ∷ [])

  -- a code of an earlier node stands for what it stood for
  pub earlier_code : (c : ℕ) → node c < m → value_at k (walk k start (gates ++ g ∷ [])) c ≡ value_at k (walk k start gates) c
  earlier_code c h =
      let long = length-walk k start gates in
      ap (λ vs. value_at k vs c) one_more ∙ value_front k (walk k start gates) (gate_value k (walk k start gates) g ∷ []) c (omega arith)

  newest : get_or (walk k start (gates ++ g ∷ [])) m k.constant ≡ gate_value k (walk k start gates) g
  newest =
      let long = length-walk k start gates in
      ap (λ vs. get_or vs m k.constant) one_more ∙ get_or_push (walk k start gates) (gate_value k (walk k start gates) g) k.constant m (omega arith)

  -- the two codes of the newest node
  pub newest_plain : value_at k (walk k start (gates ++ g ∷ [])) (2 * m) ≡ gate_value k (walk k start gates) g
  newest_plain = plain_code k (walk k start (gates ++ g ∷ [])) m ∙ newest

  pub newest_complemented : value_at k (walk k start (gates ++ g ∷ [])) (2 * m + 1) ≡ k.complement (gate_value k (walk k start gates) g)
  newest_complemented = complemented_code k (walk k start (gates ++ g ∷ [])) m ∙ ap k.complement newest
