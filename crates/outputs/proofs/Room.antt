-- Twelve values are enough for a walk.
use Rattle.std.proofs.Common.{◌≡◌, ℕ, zero, suc, ◌+◌, ◌≤◌, List, [], ◌∷◌, length, take, get_or, Some, None, Ok, Option, refl, ap, arith}
use Rattle.std.proofs.lemmas.Bool.{le-ltb}
use Rattle.mig.specs.declared.network.Network.{Network}
use Rattle.mig.specs.declared.refusal.Refusal.{Refusal}
use Rattle.mig.specs.Rules.{unless_refused, inputs_refusal, network_refusal, form_refusal, walk_refusal}
use Rattle.mig_laws.proofs.Refusals.{passes, inputs_pass, none_means_formed}

-- a walk over twelve values is refused for the inputs and the network alone
pub walk_refused_for_form : (n : ℕ) (network : Network) → walk_refusal n network 12 ≡ form_refusal n network
walk_refused_for_form n network = at (inputs_refusal n) (network_refusal n network) refl refl
  where
    at : (a b : Option Refusal) → inputs_refusal n ≡ a → network_refusal n network ≡ b → walk_refusal n network 12 ≡ form_refusal n network
    at (Some e) b p q = rw p refl
    at None (Some e) p q = rw (p, q) refl
    at None None p q =
        let few = (inputs_pass n).0 (ap passes p) in
        let gates = (none_means_formed n network q).0 in
        rw (p, q, le-ltb 12 (n + 1 + network.count) (omega arith)) refl

-- two answers that are equal where none is refused
pub unless_same : {X : Type 0} (o : Option Refusal) (x y : X) → (o ≡ None → x ≡ y) → unless_refused o x ≡ unless_refused o y
unless_same (Some e) x y h = refl
unless_same None x y h = ap Ok (h refl)

-- where the form is not refused, there are up to four inputs
pub few_inputs : (n : ℕ) (network : Network) → form_refusal n network ≡ None → n ≤ 4
few_inputs n network h = at (inputs_refusal n) refl
  where
    at : (a : Option Refusal) → inputs_refusal n ≡ a → n ≤ 4
    at (Some e) p = let x = rw p at h in absurd cc
    at None p = (inputs_pass n).0 (ap passes p)

-- the first n of four values, with others behind them
pub four_taken : {V : Type 0} (n : ℕ) (given : List V) (a b c d : V) (rest : List V) → n ≤ 4 → length given ≡ 4
    → take n (get_or given 0 a ∷ get_or given 1 b ∷ get_or given 2 c ∷ get_or given 3 d ∷ rest) ≡ take n given
four_taken n [] a b c d rest few four = absurd (omega (arith, four))
four_taken n (p ∷ []) a b c d rest few four = absurd (omega (arith, four))
four_taken n (p ∷ q ∷ []) a b c d rest few four = absurd (omega (arith, four))
four_taken n (p ∷ q ∷ r ∷ []) a b c d rest few four = absurd (omega (arith, four))
four_taken n (p ∷ q ∷ r ∷ s ∷ t ∷ given) a b c d rest few four = absurd (omega (arith, four))
four_taken {V} n (p ∷ q ∷ r ∷ s ∷ []) a b c d rest few four = taken n few
  where
    taken : (n : ℕ) → n ≤ 4 → take {A = V} n (p ∷ q ∷ r ∷ s ∷ rest) ≡ take n (p ∷ q ∷ r ∷ s ∷ [])
    taken zero h = refl
    taken (suc zero) h = refl
    taken (suc (suc zero)) h = refl
    taken (suc (suc (suc zero))) h = refl
    taken (suc (suc (suc (suc zero)))) h = refl
    taken (suc (suc (suc (suc (suc n))))) h = absurd (omega arith)
