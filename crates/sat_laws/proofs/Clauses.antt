-- Clauses: learning from marked variables, one clause more, fewer clauses.
use Rattle.std.proofs.Common.{◌≡◌, ◌*◌, ◌≢◌, ℕ, zero, suc, ◌+◌, ◌/◌, ◌%◌, ◌≤◌, ◌<◌, true, false, eqb, ⊎_elim, List, length, get_or, set, sym, ap, ◌∙◌, subst, arith, length-set, get_or-set_same, get_or-set_other, add-one}
use Rattle.std.proofs.lemmas.Bool.{cases_eq, cases_lt, cases_Bool}
use Rattle.std.proofs.lemmas.Bool.Decides.{nat_tests}
use Rattle.std.proofs.lemmas.List.{get_or_past}
use Rattle.sat_laws.specs.Formulas.{literal_at, bit, Assignment, Formula, Holds, SomeHolds, ClausesHold, IsModel, Implied, WellFormed, SameClauses}
use Rattle.sat_laws.specs.Trails.{IsTrueLiteral, IsFalseLiteral}
use Rattle.sat_laws.specs.Steps.{Marked, Apart, Gathered}
use Rattle.sat_laws.specs.Runs.{assignment_of}
use Rattle.sat_laws.proofs.Trails.{bit_le}

pub in_range : (xs : List ℕ) (i : ℕ) → 0 < get_or xs i 0 → i < length xs
in_range xs i h = ⊎_elim (λ (g : i < length xs). g) (λ (g : length xs ≤ i). absurd (omega (arith, get_or_past xs i 0 g))) (cases_lt i (length xs))

-- a literal that is false and holds in m: m differs there
pub differs : (values : List ℕ) (m : Assignment) (q : ℕ) → IsFalseLiteral values q → Holds m q → (0 < get_or values (q / 2) 0) × (get_or values (q / 2) 0 + bit (m (q / 2)) ≡ 2)
differs values m q f h = (omega arith, omega arith)

pub apart_first : (F : Formula) (ws values marks marks′ : List ℕ) (a b l : ℕ) → ((m : Assignment) → IsModel F m → SomeHolds m ws a b)
    → ((j : ℕ) → a ≤ j → j < b → literal_at ws j ≢ l) → Marked ws values a b l marks marks′ → Apart F values marks′
apart_first F ws values marks marks′ a b l c ne k m mm =
    let x = c m mm in
    ⊎_elim (λ e. absurd (ne (x.0) (x.1) (x.2) e))
    (λ f. let d = differs values m _ (f.0) (x.3) in (literal_at ws (x.0) / 2, f.1, d.0, d.1))
    (k.new (x.0) (x.1) (x.2))

pub apart_more : (F : Formula) (ws values marks marks′ : List ℕ) (a b l : ℕ) → ((m : Assignment) → IsModel F m → SomeHolds m ws a b)
    → IsTrueLiteral values l → Apart F values marks → Marked ws values a b l (set marks (l / 2) 0) marks′ → Apart F values marks′
apart_more F ws values marks marks′ a b l c t ap1 k m mm =
    let u = ap1 m mm in
    let x = c m mm in
    ⊎_elim
    (λ (e : u.0 ≡ l / 2). ⊎_elim
    (λ (q : literal_at ws (x.0) ≡ l).
    let h : Holds m l = subst (Holds m) q (x.3) in
    let w : get_or values (l / 2) 0 + bit (m (l / 2)) ≡ 2 = subst (λ y. get_or values y 0 + bit (m y) ≡ 2) e (u.3) in
    absurd (omega arith))
    (λ f. let d = differs values m _ (f.0) (x.3) in (literal_at ws (x.0) / 2, f.1, d.0, d.1))
    (k.new (x.0) (x.1) (x.2)))
    (λ (ne : u.0 ≡ l / 2 → ⊥). (u.0, k.old (u.0) (subst (λ y. 0 < y) (sym (get_or-set_other marks (l / 2) (u.0) 0 0 ne)) (u.1)), u.2, u.3))
    (cases_eq (u.0) (l / 2))

pub gathered_holds : (F : Formula) (ws values marks : List ℕ) (a : ℕ) (ws′ : List ℕ) (b : ℕ) → Apart F values marks → Gathered ws values marks a ws′ b
    → (m : Assignment) → IsModel F m → SomeHolds m ws′ a b
gathered_holds F ws values marks a ws′ b ap1 g m mm =
    let u = ap1 m mm in
    let x = g.each (u.0) (in_range values (u.0) (u.2)) (u.1) (u.2) in
    let bl : bit (m (u.0)) ≤ 1 = bit_le (m (u.0)) in
    let q : literal_at ws′ (x.0) / 2 ≡ u.0 = omega (arith, x.3, u.3) in
    let r : bit (m (u.0)) ≡ literal_at ws′ (x.0) % 2 = omega (arith, x.3, u.3) in
    (x.0, x.1, x.2, rw q r)

module _ (ws ends : List ℕ) (k n : ℕ) (ws′ : List ℕ) (sh : WellFormed ws ends k n) (len : length ws′ ≡ length ws) (same : (j : ℕ) → j < get_or ends k 0 → literal_at ws′ j ≡ literal_at ws j) where
  pub well_formed_same : WellFormed ws′ ends k n
  well_formed_same = record {
    table = sh.table;
    within = λ c h. omega (arith, sh.within c h);
    small = λ j h. omega (arith, same j h, sh.small j h);
    rising = sh.rising;
  }

  pub hold_same : (m : Assignment) → ClausesHold m ws ends k → ClausesHold m ws′ ends k
  hold_same m hd c h =
      let x = hd c h in
      (x.0, x.1, x.2, subst (Holds m) (sym (same (x.0) (omega (arith, x.2, sh.rising (c + 1) k (omega arith) (omega arith))))) (x.3))

  module _ (b : ℕ) (table : k + 1 < length ends) (ge : get_or ends k 0 ≤ b) (le : b ≤ 2 * length ws′)
      (small : (j : ℕ) → get_or ends k 0 ≤ j → j < b → literal_at ws′ j / 2 < n) where
    old : (c : ℕ) → c ≤ k → get_or (set ends (k + 1) b) c 0 ≡ get_or ends c 0
    old c h = get_or-set_other ends (k + 1) c b 0 (omega arith)

    new : get_or (set ends (k + 1) b) (k + 1) 0 ≡ b
    new = get_or-set_same ends (k + 1) b 0 table

    pub well_formed_more : WellFormed ws′ (set ends (k + 1) b) (k + 1) n
    well_formed_more = record {
      table = simp length-set table;
      within = λ c h. ⊎_elim (λ (q : c ≡ k + 1). rw (q, new) le) (λ (q : c ≡ k + 1 → ⊥). omega (arith, old c (omega arith), sh.within c (omega arith))) (cases_eq c (k + 1));
      small = λ j h. ⊎_elim (λ (g : j < get_or ends k 0). omega (arith, same j g, sh.small j g)) (λ (g : get_or ends k 0 ≤ j). small j g (omega (arith, new))) (cases_lt j (get_or ends k 0));
      rising = λ c d h g. ⊎_elim
          (λ (q : d ≡ k + 1). let hi : get_or (set ends (k + 1) b) d 0 ≡ b = ap (λ y. get_or (set ends (k + 1) b) y 0) q ∙ new in
          ⊎_elim (λ (r : c ≡ d). rw r (omega arith)) (λ (r : c ≡ d → ⊥). omega (arith, old c (omega arith), sh.rising c k (omega arith) (omega arith))) (cases_eq c d))
          (λ (q : d ≡ k + 1 → ⊥). omega (arith, old c (omega arith), old d (omega arith), sh.rising c d h (omega arith)))
          (cases_eq d (k + 1));
    }

    pub kept_more : SameClauses ws ends k ws′ (set ends (k + 1) b)
    kept_more = record { same_literals = same; same_ends = old }

    pub hold_more : (m : Assignment) → ClausesHold m ws ends k → SomeHolds m ws′ (get_or ends k 0) b → ClausesHold m ws′ (set ends (k + 1) b) (k + 1)
    hold_more m hd x c h = ⊎_elim
        (λ (q : c ≡ k). let lo : get_or (set ends (k + 1) b) c 0 ≡ get_or ends k 0 = old c (omega arith) ∙ ap (λ y. get_or ends y 0) q in
        let hi : get_or (set ends (k + 1) b) (c + 1) 0 ≡ b = ap (λ y. get_or (set ends (k + 1) b) (y + 1) 0) q ∙ new in
        (x.0, omega (arith, x.1), omega (arith, x.2), x.3))
        (λ (q : c ≡ k → ⊥).
        let y = hold_same m hd c (omega arith) in
        (y.0, omega (arith, y.1, old c (omega arith)), omega (arith, y.2, old (c + 1) (omega arith)), y.3))
        (cases_eq c k)

-- the first k of more clauses
module _ (ws ends : List ℕ) (k k₀ n : ℕ) (le : k₀ ≤ k) where
  pub well_formed_fewer : WellFormed ws ends k n → WellFormed ws ends k₀ n
  well_formed_fewer sh = record {
    table = omega (arith, sh.table);
    within = λ c h. sh.within c (omega arith);
    small = λ j h. sh.small j (omega (arith, sh.rising k₀ k le (omega arith)));
    rising = λ c d h g. sh.rising c d h (omega arith);
  }

  pub kept_fewer : (ws′ ends′ : List ℕ) → WellFormed ws ends k n → SameClauses ws ends k ws′ ends′ → SameClauses ws ends k₀ ws′ ends′
  kept_fewer ws′ ends′ sh kp = record { same_literals = λ j h. kp.same_literals j (omega (arith, sh.rising k₀ k le (omega arith))); same_ends = λ c h. kp.same_ends c (omega arith) }

  pub implied_fewer : (F : Formula) → Implied F ws ends k → Implied F ws ends k₀
  implied_fewer F snd m mm c h = snd m mm c (omega arith)

pub kept_trans : (ws ends ws′ ends′ ws″ ends″ : List ℕ) (k : ℕ) → SameClauses ws ends k ws′ ends′ → SameClauses ws′ ends′ k ws″ ends″ → SameClauses ws ends k ws″ ends″
kept_trans ws ends ws′ ends′ ws″ ends″ k a b = record {
  same_literals = λ j h. b.same_literals j (omega (arith, a.same_ends k (omega arith))) ∙ a.same_literals j h;
  same_ends = λ c h. b.same_ends c h ∙ a.same_ends c h;
}

-- a model of the clauses as they are is one of the clauses as they were
pub hold_kept : (ws ends ws′ ends′ : List ℕ) (k n : ℕ) (m : Assignment) → WellFormed ws ends k n → SameClauses ws ends k ws′ ends′ → ClausesHold m ws′ ends′ k → ClausesHold m ws ends k
hold_kept ws ends ws′ ends′ k n m sh kp hd c h =
    let x = hd c h in
    let hi : x.0 < get_or ends (c + 1) 0 = omega (arith, x.2, kp.same_ends (c + 1) (omega arith)) in (
      x.0,
      omega (arith, x.1, kp.same_ends c (omega arith)),
      hi,
      subst (Holds m) (kp.same_literals (x.0) (omega (arith, hi, sh.rising (c + 1) k (omega arith) (omega arith)))) (x.3),
    )

bit_two : (x s : ℕ) → x ≡ 1 + s → s ≤ 1 → bit (eqb x 2) ≡ s
bit_two x s e h = ⊎_elim (λ (t : eqb x 2 ≡ true). ap bit t ∙ grind (arith, nat_tests)) (λ (t : eqb x 2 ≡ false). ap bit t ∙ grind (arith, nat_tests)) (cases_Bool (eqb x 2))

pub true_holds : (values : List ℕ) (l : ℕ) → IsTrueLiteral values l → Holds (assignment_of values) l
true_holds values l t = bit_two (get_or values (l / 2) 0) (l % 2) t (omega arith)

pub ends_rise : (ends : List ℕ) (k : ℕ) → ((c : ℕ) → c < k → get_or ends c 0 ≤ get_or ends (c + 1) 0) → (c d : ℕ) → c ≤ d → d ≤ k → get_or ends c 0 ≤ get_or ends d 0
ends_rise ends k s c zero h g = let e : c ≡ 0 = omega arith in rw e (omega arith)
ends_rise ends k s c (suc d) h g = ⊎_elim
    (λ (e : c ≡ suc d). rw e (omega arith))
    (λ (e : c ≡ suc d → ⊥). let i : get_or ends d 0 ≤ get_or ends (suc d) 0 = simp add-one at (s d (omega arith)) in omega (arith, ends_rise ends k s c d (omega arith) (omega arith)))
    (cases_eq c (suc d))
