-- Facts about small numbers, by one test that antt computes.
use Rattle.std.proofs.Common.{◌≡◌, ℕ, zero, suc, ◌<◌, Bool, true, false, ◌&&◌, T, subst, inl, inr, not-suc-le-zero, arith}
use Rattle.std.proofs.lemmas.Bool.{cases_lt}
use Rattle.mig.specs.Rules.{all_below}

pub parts : (a b : Bool) → T (a && b) → T a × T b
parts true b t = (tt, t)
parts false b t = absurd t

-- a test that passes at each number below n passes at i
pub below : (n : ℕ) (p : ℕ → Bool) → T (all_below n p) → (i : ℕ) → i < n → T (p i)
unfolding all_below
below zero p t i h = absurd (not-suc-le-zero h)
below (suc n) p t i h =
    elim (cases_lt i n) [
      | inl l ↦ below n p (parts (p n) (all_below n p) t).1 i l
      | inr g ↦ let e : n ≡ i = omega arith in subst (λ (x : ℕ). T (p x)) e (parts (p n) (all_below n p) t).0
    ]
