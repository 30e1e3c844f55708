-- Clauses moved down over those that are dropped.
use Rattle.std.proofs.Common.{◌≡◌, ◌*◌, ℕ, ◌+◌, ◌-◌, ◌/◌, ◌≤◌, ◌<◌, List, length, get_or, set, sym, refl, ap, ◌∙◌, subst, arith, get_or-set_same, get_or-set_other}
use Rattle.sat_laws.specs.Formulas.{literal_at, Holds, WellFormed}
use Rattle.sat_laws.specs.Steps.{MovedDown, Reducing}
use Rattle.sat_laws.proofs.Clauses.{well_formed_fewer, implied_fewer, well_formed_more, hold_more, kept_more, kept_fewer, kept_trans}

pub reduce_start : (ws ends : List ℕ) (k₀ k n : ℕ) → WellFormed ws ends k n → k₀ ≤ k → Reducing ws ends k₀ k n ws ends k₀ k₀ (get_or ends k₀ 0)
reduce_start ws ends k₀ k n sh le = record {
  sofar = record { low = omega arith; shaped = well_formed_fewer ws ends k k₀ n le sh; kept = record { same_literals = λ j h. refl; same_ends = λ c h. refl }; sound = λ F snd. implied_fewer ws ends k k₀ n le F snd };
  place = refl;
  behind = omega arith;
  under = omega arith;
  rest = λ j h. refl;
  later = λ d h. refl;
}

module _ (ws₀ ends₀ : List ℕ) (k₀ k n : ℕ) (ws ends : List ℕ) (kept_count c s : ℕ) (sh0 : WellFormed ws₀ ends₀ k n) (p : Reducing ws₀ ends₀ k₀ k n ws ends kept_count c s) (lt : c < k) where
  pub reduce_skip : Reducing ws₀ ends₀ k₀ k n ws ends kept_count (c + 1) (get_or ends (c + 1) 0)
  reduce_skip = record {
    sofar = p.sofar;
    place = p.later (c + 1) (omega arith);
    behind = omega (arith, p.behind);
    under = omega (arith, p.under, p.place, p.later (c + 1) (omega arith), sh0.rising c (c + 1) (omega arith) (omega arith));
    rest = λ j h. p.rest j (omega (arith, p.place, p.later (c + 1) (omega arith), sh0.rising c (c + 1) (omega arith) (omega arith)));
    later = λ d h. p.later d (omega arith);
  }

  module _ (ws′ : List ℕ) (b q : ℕ) (eb : b ≡ get_or ends (c + 1) 0) (eq : q ≡ get_or ends kept_count 0 + (b - s)) (len : length ws′ ≡ length ws) (table : kept_count + 1 < length ends)
      (sl : MovedDown ws s b (get_or ends kept_count 0) ws′) (le : q ≤ 2 * length ws′) where
    e0 : b ≡ get_or ends₀ (c + 1) 0
    e0 = eb ∙ p.later (c + 1) (omega arith)

    sb : s ≤ b
    sb = omega (arith, e0, p.place, sh0.rising c (c + 1) (omega arith) (omega arith))

    bk : b ≤ get_or ends₀ k 0
    bk = omega (arith, e0, sh0.rising (c + 1) k (omega arith) (omega arith))

    same : (j : ℕ) → j < get_or ends kept_count 0 → literal_at ws′ j ≡ literal_at ws j
    same j h = sl.low j h

    -- a place of the clause where it was moved to, as it was
    was : (i : ℕ) → s + i < b → literal_at ws′ (get_or ends kept_count 0 + i) ≡ literal_at ws₀ (s + i)
    was i h = sl.moved i h ∙ p.rest (s + i) (omega arith)

    small : (j : ℕ) → get_or ends kept_count 0 ≤ j → j < q → literal_at ws′ j / 2 < n
    small j h g =
        let i : ℕ = j - get_or ends kept_count 0 in
        let r : get_or ends kept_count 0 + i ≡ j = omega arith in
        let w : literal_at ws′ j ≡ literal_at ws₀ (s + i) = subst (λ y. literal_at ws′ y ≡ literal_at ws₀ (s + i)) r (was i (omega (arith, sb))) in
        omega (arith, sh0.small (s + i) (omega (arith, bk, sb)))

    pub reduce_keep : Reducing ws₀ ends₀ k₀ k n ws′ (set ends (kept_count + 1) q) (kept_count + 1) (c + 1) b
    reduce_keep = record {
      sofar = record {
        low = omega (arith, p.sofar.low);
        shaped = well_formed_more ws ends kept_count n ws′ (p.sofar.shaped) len same q table (omega arith) le small;
        kept = kept_trans _ _ _ _ _ _ _ (p.sofar.kept) (kept_fewer _ _ _ _ _ (p.sofar.low) _ _ (p.sofar.shaped)
            (kept_more ws ends kept_count n ws′ (p.sofar.shaped) len same q table (omega arith) le small));
        sound = λ F snd m mm. hold_more ws ends kept_count n ws′ (p.sofar.shaped) len same q table (omega arith) le small m (p.sofar.sound F snd m mm)
            (let x = snd m mm c lt in
            let i : ℕ = x.0 - s in
            let r : s + i ≡ x.0 = omega (arith, x.1, p.place) in (
              get_or ends kept_count 0 + i,
              omega arith,
              omega (arith, x.2, e0, sb, x.1, p.place),
              subst (Holds m) (sym (was i (omega (arith, x.2, e0)) ∙ ap (λ y. literal_at ws₀ y) r)) (x.3),
            ));
      };
      place = e0;
      behind = omega (arith, p.behind);
      under = omega (arith, get_or-set_same ends (kept_count + 1) q 0 table, p.under, sb);
      rest = λ j h. sl.high j h ∙ p.rest j (omega (arith, sb));
      later = λ d h. get_or-set_other ends (kept_count + 1) d q 0 (omega (arith, p.behind)) ∙ p.later d (omega arith);
    }
