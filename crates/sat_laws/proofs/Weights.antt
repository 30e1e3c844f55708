-- The measure of the search.
use Rattle.std.proofs.Common.{◌≡◌, ◌≢◌, ℕ, zero, suc, ◌+◌, ◌*◌, ◌^◌, ◌≤◌, ◌<◌, ◌⊎◌, ⊎_elim, List, length, get_or, set, refl, subst, arith, get_or-set_same, get_or-set_other, pow-suc, mul-le-mul_right, add-mul}
use Rattle.std.proofs.lemmas.Bool.{cases_lt}
use Rattle.std.proofs.lemmas.Bool.Decides.{nat_tests}
use Rattle.sat_laws.specs.Trails.{digit, in_base_three, trail_weight, measure}

-- the measure
pub base_three_same : (d e : ℕ → ℕ) (n : ℕ) → ((i : ℕ) → i < n → e i ≡ d i) → in_base_three e n ≡ in_base_three d n
base_three_same d e zero s = refl
base_three_same d e (suc n) s = omega (arith, base_three_same d e n (λ i h. s i (omega arith)), s n (omega arith))

pub base_three_less : (d e : ℕ → ℕ) (p n : ℕ) → ((i : ℕ) → i < p → e i ≡ d i) → e p < d p → ((i : ℕ) → e i ≤ 2) → p < n → in_base_three e n < in_base_three d n
base_three_less d e p zero s lt b h = absurd (omega arith)
base_three_less d e p (suc n) s lt b h = ⊎_elim
    (λ (g : p < n). omega (arith, base_three_less d e p n s lt b g, b n))
    (λ (g : n ≤ p). let q : p ≡ n = omega arith in
    let same : in_base_three e n ≡ in_base_three d n = base_three_same d e n (λ i k. s i (omega arith)) in
    let here : e n < d n = subst (λ x. e x < d x) q lt in omega arith)
    (cases_lt p n)

pub digit_le : (kinds : List ℕ) (top i : ℕ) → digit kinds top i ≤ 2
digit_le kinds top i = grind (arith, nat_tests)

module _ (kinds : List ℕ) (top n : ℕ) where
  -- from a state with `top` places, those below t are kept, and t gets the kinds k
  pub weight_less : (t k : ℕ) → t < n → t < length kinds → (t ≡ top) ⊎ ((t < top) × (get_or kinds t 0 ≡ 1) × (k ≢ 1))
      → trail_weight (set kinds t k) (t + 1) n < trail_weight kinds top n
  unfolding trail_weight
  weight_less t k h hk why = base_three_less (digit kinds top) (digit (set kinds t k) (t + 1)) t n
      (λ i g. let o : get_or (set kinds t k) i 0 ≡ get_or kinds i 0 = get_or-set_other kinds t i k 0 (omega arith) in
      let below : (i < t + 1) × (i < top) = (omega arith, ⊎_elim (λ (e : t ≡ top). omega arith) (λ e. omega (arith, e.0)) why) in
      grind (arith, nat_tests))
      (let o : get_or (set kinds t k) t 0 ≡ k = get_or-set_same kinds t k 0 hk in grind (arith, nat_tests))
      (digit_le (set kinds t k) (t + 1)) h

-- fuel, and then the trail
pub base_three_bound : (d : ℕ → ℕ) (n : ℕ) → ((i : ℕ) → d i ≤ 2) → in_base_three d n < 3 ^ n
base_three_bound d zero b = omega arith
base_three_bound d (suc n) b = let e : 3 ^ suc n ≡ 3 ^ n * 3 = pow-suc 3 n in omega (arith, base_three_bound d n b, b n)

pub weight_bound : (kinds : List ℕ) (top n : ℕ) → trail_weight kinds top n < 3 ^ n
unfolding trail_weight
weight_bound kinds top n = base_three_bound (digit kinds top) n (digit_le kinds top)

pub fuel_less : (f f′ : ℕ) (kinds kinds′ : List ℕ) (top top′ n : ℕ) → f′ < f → measure f′ kinds′ top′ n < measure f kinds top n
unfolding measure
fuel_less f f′ kinds kinds′ top top′ n h =
    let g : f′ + 1 ≤ f = omega arith in
    omega (arith, weight_bound kinds′ top′ n, mul-le-mul_right (3 ^ n) g, add-mul f′ 1 (3 ^ n))

pub trail_less : (f : ℕ) (kinds kinds′ : List ℕ) (top top′ n : ℕ) → trail_weight kinds′ top′ n < trail_weight kinds top n → measure f kinds′ top′ n < measure f kinds top n
unfolding measure
trail_less f kinds kinds′ top top′ n h = omega arith
