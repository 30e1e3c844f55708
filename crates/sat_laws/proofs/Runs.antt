-- What the search keeps true, step by step.
use Rattle.std.proofs.Common.{◌≡◌, ℕ, ◌+◌, ◌≤◌, ◌<◌, List, length, get_or, refl, sym, subst, arith}
use Rattle.sat_laws.specs.Formulas.{WellFormed}
use Rattle.sat_laws.specs.Trails.{AreFalse, Consistent, Justified, Refuted, trail_weight, measure}
use Rattle.sat_laws.specs.Steps.{Grown, Analyzed, Backjumped, Reduced}
use Rattle.sat_laws.specs.Runs.{Running, formula_of}
use Rattle.sat_laws.proofs.Trails.{conflict}
use Rattle.sat_laws.proofs.Weights.{trail_less}
use Rattle.sat_laws.proofs.Clauses.{kept_fewer, kept_trans}

module _ {ws₀ ends₀ : List ℕ} {k₀ : ℕ} {ws ends : List ℕ} {k : ℕ} {values trail kinds : List ℕ} {top : ℕ} (r : Running ws₀ ends₀ k₀ ws ends k values trail kinds top) where
  pub run_refuted : (c : ℕ) → c < k → AreFalse values ws (get_or ends c 0) (get_or ends (c + 1) 0) → Refuted (formula_of ws₀ ends₀ k₀) trail kinds top
  run_refuted c h f = conflict (formula_of ws₀ ends₀ k₀) values trail kinds top (r.consistent) (r.justified) ws _ _ (λ m mm. r.sound m mm c h) f

  pub run_learnt : {ws′ ends′ : List ℕ} {k′ : ℕ} → Analyzed ws ends k (length values) trail kinds top ws′ ends′ k′ → Running ws₀ ends₀ k₀ ws′ ends′ k′ values trail kinds top
  run_learnt s = record {
    shaped = s.shaped;
    kept = kept_trans _ _ _ _ _ _ _ (r.kept) (kept_fewer _ _ _ _ _ (r.more) _ _ (r.shaped) (s.kept));
    more = omega (arith, r.more, s.more);
    consistent = r.consistent;
    sound = s.sound _ r.sound r.justified;
    justified = r.justified;
  }

  pub run_reduced : {ws′ ends′ : List ℕ} {k′ : ℕ} → Reduced ws ends k₀ k (length values) ws′ ends′ k′ → Running ws₀ ends₀ k₀ ws′ ends′ k′ values trail kinds top
  run_reduced s = record {
    shaped = s.shaped;
    kept = kept_trans _ _ _ _ _ _ _ (r.kept) (s.kept);
    more = s.low;
    consistent = r.consistent;
    sound = s.sound _ (r.sound);
    justified = r.justified;
  }

  module _ {values′ trail′ kinds′ : List ℕ} {top′ : ℕ} (e : length values′ ≡ length values) where
    pub run_to : Consistent values′ trail′ kinds′ top′ → Justified (formula_of ws₀ ends₀ k₀) trail′ kinds′ top′ → Running ws₀ ends₀ k₀ ws ends k values′ trail′ kinds′ top′
    run_to b j = record { shaped = subst (WellFormed ws ends k) (sym e) (r.shaped); kept = r.kept; more = r.more; consistent = b; sound = r.sound; justified = j }

    pub run_grown : Grown ws ends k values trail kinds top values′ trail′ kinds′ top′ → Running ws₀ ends₀ k₀ ws ends k values′ trail′ kinds′ top′
    run_grown g = run_to (g.consistent) (g.justified _ (r.sound) (r.justified))

    pub run_backjumped : Backjumped ws ends k trail kinds top values′ trail′ kinds′ top′ → Running ws₀ ends₀ k₀ ws ends k values′ trail′ kinds′ top′
    run_backjumped g = run_to g.consistent (g.justified _ r.sound r.justified)

pub run_start : {ws ends : List ℕ} {k : ℕ} {values trail kinds : List ℕ} → WellFormed ws ends k (length values) → Consistent values trail kinds 0 → Running ws ends k ws ends k values trail kinds 0
run_start sh b = record {
  shaped = sh;
  kept = record { same_literals = λ j h. refl; same_ends = λ c h. refl };
  more = omega arith;
  consistent = b;
  sound = λ m mm. mm;
  justified = λ i h. absurd (omega arith);
}

-- what a trail with less to come, by fewer places or by fuel, is worth
module _ (f : ℕ) (kinds kinds′ kinds″ : List ℕ) (top top′ top″ n : ℕ) where
  pub measure_less : trail_weight kinds′ top′ n ≤ trail_weight kinds top n → trail_weight kinds″ top″ n < trail_weight kinds′ top′ n → measure f kinds″ top″ n < measure f kinds top n
  measure_less g h = trail_less f kinds kinds″ top top″ n (omega arith)
