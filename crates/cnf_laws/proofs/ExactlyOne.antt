-- Of some variables exactly one holds.
use Rattle.std.proofs.Common.{◌≡◌, ℕ, zero, suc, ◌+◌, ◌-◌, ◌≤◌, ◌<◌, Bool, true, false, cond, eqb, [], ◌∷◌, refl, sym, ap, subst, ◌∙◌, inl, inr, arith}
use Rattle.std.proofs.lemmas.Bool.{cases_Bool, or_cases, or_left, or_right, both_ways, false≢true, eqb-true, eq-eqb, ne_eqb, cases_order, cases_lt}
use Rattle.cnf.specs.Variables.{Var, pos, neg, each}
use Rattle.cnf.specs.Clauses.{exactly_one}
use Rattle.cnf.specs.Meaning.{Assignment, some_holds, Satisfies, pick}
use Rattle.cnf_laws.proofs.Satisfied.{satisfies_each, satisfies_at, first_holds, satisfies_rest}
use Rattle.cnf_laws.proofs.Literals.{not_both_says, not_both_met}

-- one of v a, v (a + 1) and so on holds
some_from_variable : (s : Assignment) (v : ℕ → Var) (a m k : ℕ) → a ≤ k → k < a + m → s (v k) ≡ true
    → some_holds s (each a m (λ j. pos (v j) ∷ [])) ≡ true
unfolding each
some_from_variable s v a zero k l u h = absurd (omega arith)
some_from_variable s v a (suc m) k l u h =
    elim (cases_lt a k) [
      | inl b ↦ or_right (s (v a)) _ (some_from_variable s v (suc a) m k (omega arith) (omega arith) h)
      | inr b ↦ let e : a ≡ k = omega arith in or_left (s (v a)) _ (ap (λ x. s (v x)) e ∙ h)
    ]

variable_from_some : (s : Assignment) (v : ℕ → Var) (a m : ℕ) → some_holds s (each a m (λ j. pos (v j) ∷ [])) ≡ true
    → (k : ℕ) × (a ≤ k) × (k < a + m) × (s (v k) ≡ true)
unfolding each
variable_from_some s v a zero h = absurd (false≢true h)
variable_from_some s v a (suc m) h =
    elim (or_cases (s (v a)) (some_holds s (each (suc a) m (λ j. pos (v j) ∷ []))) h) [
      | inl e ↦ (a, omega arith, omega arith, e)
      | inr e ↦ let w = variable_from_some s v (suc a) m e in (w.0, omega arith, omega arith, w.3)
    ]

-- the number picked passes, if one does
pub pick_passes : (m : ℕ) (p : ℕ → Bool) (k : ℕ) → k < m → p k ≡ true → (pick m p < m) × (p (pick m p) ≡ true)
unfolding pick
pick_passes zero p k l h = absurd (omega arith)
pick_passes (suc m) p k l h = at (p m) refl (pick_passes m p k)
  where
    at : (b : Bool) → p m ≡ b → (k < m → p k ≡ true → (pick m p < m) × (p (pick m p) ≡ true))
        → (cond b m (pick m p) < suc m) × (p (cond b m (pick m p)) ≡ true)
    at true e ih = (omega arith, e)
    at false e ih =
        elim (cases_lt k m) [
          | inl b ↦ let w = ih b h in (omega arith, w.1)
          | inr b ↦ let q : m ≡ k = omega arith in absurd (both_ways (p m) e (ap p q ∙ h))
        ]

-- the number picked is the only one below m that passes
pub record PicksOnly (m : ℕ) (p : ℕ → Bool) : Type 0 where
  pub below : pick m p < m
  pub passes : p (pick m p) ≡ true
  pub only : (k : ℕ) → k < m → p k ≡ eqb (pick m p) k

pub picks_only : (s : Assignment) (m : ℕ) (v : ℕ → Var) → Satisfies s (exactly_one m v) → PicksOnly m (λ j. s (v j))
picks_only s m v h = record { below = w.0; passes = w.1; only = only }
  where
    w : (pick m (λ j. s (v j)) < m) × (s (v (pick m (λ j. s (v j)))) ≡ true)
    w = let e = variable_from_some s v 0 m (first_holds s _ _ h) in pick_passes m (λ j. s (v j)) e.0 (omega arith) e.3

    apart : (x y : ℕ) → x < y → y < m → s (v x) ≡ true → s (v y) ≡ true → ⊥
    apart x y l u =
        not_both_says (s (v x)) (s (v y)) (first_holds s _ _
        (satisfies_at s (suc x) (m - suc x) (λ z. (neg (v x) ∷ neg (v z) ∷ []) ∷ [])
        (satisfies_at s 0 m (λ x'. each (suc x') (m - suc x') (λ z. (neg (v x') ∷ neg (v z) ∷ []) ∷ [])) (satisfies_rest s _ _ h) x (omega arith) (omega arith))
        y (omega arith) (omega arith)))

    only : (k : ℕ) → k < m → s (v k) ≡ eqb (pick m (λ j. s (v j))) k
    only k l =
        elim (cases_Bool (s (v k))) [
          | inl e ↦
              elim (cases_order (pick m (λ j. s (v j))) k) [
                | inl q ↦ e ∙ sym (eq-eqb _ k q)
                | inr (inl b) ↦ absurd (apart _ k b l w.1 e)
                | inr (inr b) ↦ absurd (apart k _ b w.0 e w.1)
              ]
          | inr e ↦ e ∙ sym (ne_eqb _ k (λ q. both_ways (s (v k)) e (subst (λ x. s (v x) ≡ true) q w.1)))
        ]

pub exactly_one_satisfied : (s : Assignment) (m : ℕ) (v : ℕ → Var) (p : ℕ) → p < m → ((k : ℕ) → s (v k) ≡ eqb p k) → Satisfies s (exactly_one m v)
unfolding Satisfies
exactly_one_satisfied s m v p l h = (
  some_from_variable s v 0 m p (omega arith) (omega arith) (h p ∙ eq-eqb p p refl),
  satisfies_each s 0 m _ (λ x a b. satisfies_each s (suc x) (m - suc x) _ (λ y c d.
      (not_both_met (s (v x)) (s (v y)) (λ e f. apart x y (omega arith) (eqb-true p x (sym (h x) ∙ e)) (eqb-true p y (sym (h y) ∙ f))), tt))),
)
  where
    apart : (x y : ℕ) → x < y → p ≡ x → p ≡ y → ⊥
    apart x y a b c = omega arith
