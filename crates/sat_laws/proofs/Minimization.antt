-- Minimization: variables whose values follow from those of the variables kept.
use Rattle.std.proofs.Common.{◌≡◌, ◌≢◌, ℕ, ◌+◌, ◌/◌, ◌≤◌, ◌<◌, ⊎_elim, List, length, get_or, set, sym, ap, subst, arith, get_or-set_same, get_or-set_other}
use Rattle.std.proofs.lemmas.Bool.{cases_eq}
use Rattle.sat_laws.specs.Formulas.{bit, Assignment, Formula, Holds, SomeHolds, IsModel, literal_at}
use Rattle.sat_laws.specs.Trails.{Justified, IsTrueLiteral}
use Rattle.sat_laws.specs.Steps.{Covered, Apart, FollowsFrom, FollowFromKept}
use Rattle.sat_laws.proofs.Clauses.{differs}

-- no model differs from the values at the variable of a literal that holds in it
true_agrees : (values : List ℕ) (m : Assignment) (l : ℕ) → IsTrueLiteral values l → Holds m l → get_or values (l / 2) 0 + bit (m (l / 2)) ≡ 2 → ⊥
true_agrees values m l t h d = omega arith

-- the variable of a literal that is covered by a clause
pub follows_covered : (F : Formula) (ws values marks : List ℕ) (a b l : ℕ) → ((m : Assignment) → IsModel F m → SomeHolds m ws a b)
    → IsTrueLiteral values l → Covered ws values a b l marks → FollowsFrom F values marks 2 (l / 2)
follows_covered F ws values marks a b l c t k m mm g d =
    let x = c m mm in
    ⊎_elim
    (λ (q : literal_at ws (x.0) ≡ l). let h : Holds m l = subst (Holds m) q (x.3) in absurd (true_agrees values m l t h d))
    (λ f. let e = differs values m _ (f.0) (x.3) in (literal_at ws (x.0) / 2, f.1, e.0, e.1))
    (k (x.0) (x.1) (x.2))

-- the variable of a literal of the trail that needs no decision
pub follows_undecided : (F : Formula) (values trail kinds marks : List ℕ) (top i : ℕ) → Justified F trail kinds top → i < top
    → ((j : ℕ) → j < i + 1 → get_or kinds j 0 ≡ 1 → ⊥) → IsTrueLiteral values (get_or trail i 0) → FollowsFrom F values marks 2 (get_or trail i 0 / 2)
follows_undecided F values trail kinds marks top i just lt free t m mm g d =
    let h : Holds m (get_or trail i 0) = ⊎_elim (λ z. absurd (free i (omega arith) z)) (λ f. f m mm (λ j y z. absurd (free j (omega arith) z))) (just i lt) in
    absurd (true_agrees values m (get_or trail i 0) t h d)

pub follow_none : (F : Formula) (values marks : List ℕ) → ((v : ℕ) → get_or marks v 0 ≤ 1) → FollowFromKept F values marks
follow_none F values marks small v h = absurd (omega (arith, small v))

module _ (F : Formula) (values marks : List ℕ) (v : ℕ) (fresh : get_or marks v 0 < 2) (known : FollowFromKept F values marks) where
  -- what is kept stays so
  still_kept : (y u : ℕ) → 3 ≤ get_or marks u 0 → 3 ≤ get_or (set marks v y) u 0
  still_kept y u h =
      let ne : u ≢ v = λ (e : u ≡ v). let q : get_or marks u 0 ≡ get_or marks v 0 = ap (λ x. get_or marks x 0) e in omega arith in
      subst (λ x. 3 ≤ x) (sym (get_or-set_other marks v u y 0 ne)) h

  -- a variable that is kept
  pub follow_kept : v < length marks → FollowFromKept F values (set marks v 3)
  follow_kept lt u h m mm g d = ⊎_elim
      (λ (e : u ≡ v). (u, subst (λ x. 3 ≤ get_or (set marks v 3) x 0) (sym e) (omega (arith, get_or-set_same marks v 3 0 lt)), g, d))
      (λ (ne : u ≡ v → ⊥). let x = known u (subst (λ y. 2 ≤ y) (get_or-set_other marks v u 3 0 ne) h) m mm g d in (x.0, still_kept 3 x.0 x.1, x.2, x.3))
      (cases_eq u v)

  -- a variable that is implied
  pub follow_implied : FollowsFrom F values marks 2 v → FollowFromKept F values (set marks v 2)
  follow_implied f u h m mm g d = ⊎_elim
      (λ (e : u ≡ v).
      let y = f m mm (subst (λ z. 0 < get_or values z 0) e g) (subst (λ z. get_or values z 0 + bit (m z) ≡ 2) e d) in
      let x = known y.0 y.1 m mm y.2 y.3 in
      (x.0, still_kept 2 x.0 x.1, x.2, x.3))
      (λ (ne : u ≡ v → ⊥). let x = known u (subst (λ y. 2 ≤ y) (get_or-set_other marks v u 2 0 ne) h) m mm g d in (x.0, still_kept 2 x.0 x.1, x.2, x.3))
      (cases_eq u v)

-- marks that are at least 1 stay so
pub still_marked : (marks : List ℕ) (v y : ℕ) → 0 < y → (u : ℕ) → 0 < get_or marks u 0 → v < length marks → 0 < get_or (set marks v y) u 0
still_marked marks v y p u h lt = ⊎_elim
    (λ (e : u ≡ v). subst (λ x. 0 < get_or (set marks v y) x 0) (sym e) (omega (arith, get_or-set_same marks v y 0 lt)))
    (λ (ne : u ≡ v → ⊥). subst (λ x. 0 < x) (sym (get_or-set_other marks v u y 0 ne)) h)
    (cases_eq u v)

-- without the marks of the variables that are implied
pub apart_kept : (F : Formula) (values marks₀ marks marks′ : List ℕ) → FollowFromKept F values marks → ((v : ℕ) → 0 < get_or marks₀ v 0 → 0 < get_or marks v 0)
    → ((v : ℕ) → 0 < get_or marks v 0 → get_or marks v 0 ≢ 2 → 0 < get_or marks′ v 0) → Apart F values marks₀ → Apart F values marks′
apart_kept F values marks₀ marks marks′ known old kept apart m mm =
    let u = apart m mm in
    ⊎_elim
    (λ (e : get_or marks u.0 0 ≡ 2). let x = known u.0 (omega arith) m mm u.2 u.3 in (x.0, kept x.0 (omega (arith, x.1)) (λ (q : get_or marks x.0 0 ≡ 2). absurd (omega (arith, x.1))), x.2, x.3))
    (λ (ne : get_or marks u.0 0 ≡ 2 → ⊥). (u.0, kept u.0 (old u.0 u.1) ne, u.2, u.3))
    (cases_eq (get_or marks u.0 0) 2)
