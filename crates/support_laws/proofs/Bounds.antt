-- A table depends on inputs in the fan-in cone of its network's output alone, so on few.
use Rattle.std.proofs.Common.{◌≡◌, ℕ, zero, suc, ◌+◌, ◌*◌, ◌/◌, ◌%◌, ◌^◌, ◌<◌, ◌≤◌, Bool, true, false, cond, not, ◌⊎◌, get_or, replicate, sym, refl, ap, ◌∙◌, subst, inl, inr, zero-add, arith}
use native.Mathlib.Nat.{pow-le-pow_right}
use lib.Count.{ones, ones_step, ones-le}
use lib.ListN.{length-replicate, get_or-replicate}
use Rattle.std.proofs.lemmas.List.{get_or_past}
use Rattle.std.proofs.lemmas.Bool.{both_ways, cases_eq, cases_lt, cases_Bool}
use Rattle.mig.specs.Networks.{Net, node, complemented, walk, bits, levels}
use Rattle.mig.specs.Tables.{table_from}
use Rattle.mig.specs.Questions.{input_bits, row_start, row_bit, Computes}
use Rattle.mig_laws.proofs.Nodes.{level_at}
use Rattle.mig_laws.proofs.RowBits.{length-input_bits, get_or-input_bits}
use Rattle.mig_laws.proofs.Tables.{one, one_small}
use Rattle.support_laws.specs.Support.{Depends, depends_at, support_size, GateBound, LevelBound}
use Rattle.support_laws.proofs.Cones.{in_cone, cone_decides_value, cone_by_gates, cone_by_levels}
use Rattle.support_laws.proofs.Dependence.{decides_depends}
use Rattle.support_laws.proofs.Sums.{sum, weight_if, sum_le, sum_front}

-- the node j, the constant or an input, is in the cone of the output
abbrev in_output_cone : ℕ → Net → ℕ → Bool
in_output_cone n net j = in_cone net.gates (suc n) (node net.output) j

-- the output has the same value in rows that agree on its cone
same_row : (n : ℕ) (net : Net) (s t : ℕ) → ((j : ℕ) → in_output_cone n net j ≡ true → get_or (row_start n s) j false ≡ get_or (row_start n t) j false) → row_bit n net s ≡ row_bit n net t
same_row n net s t h =
    ap (λ (v : Bool). cond (complemented net.output) (not v) v)
    (cone_decides_value bits net.gates (row_start n s) (row_start n t) (suc n) (node net.output) (ap suc (length-input_bits n s)) (ap suc (length-input_bits n t)) h)

-- the inputs on which the table depends are in the cone
depends_in_cone : (n table k : ℕ) (net : Net) → Computes n table net → Depends n table (k + 1) → in_output_cone n net (suc k) ≡ true
depends_in_cone n table k net c d = at (cases_Bool (in_output_cone n net (suc k)))
  where
    input : in_output_cone n net (suc k) ≡ false → (j : ℕ) → in_output_cone n net (suc j) ≡ true → (j < n) ⊎ (n ≤ j) → (j ≡ k) ⊎ (j ≡ k → ⊥)
        → get_or (input_bits n d.row) j false ≡ get_or (input_bits n d.other) j false
    input f j e (inl l) (inl i) = absurd (both_ways (in_output_cone n net (suc k)) f (subst (λ (x : ℕ). in_output_cone n net (suc x) ≡ true) i e))
    input f j e (inl l) (inr i) = get_or-input_bits n d.row j l ∙ d.alone j l (λ b. i (omega arith)) ∙ sym (get_or-input_bits n d.other j l)
    input f j e (inr l) i =
        get_or_past (input_bits n d.row) j false (omega (arith, length-input_bits n d.row)) ∙ sym (get_or_past (input_bits n d.other) j false (omega (arith, length-input_bits n d.other)))

    start : in_output_cone n net (suc k) ≡ false → (j : ℕ) → in_output_cone n net j ≡ true → get_or (row_start n d.row) j false ≡ get_or (row_start n d.other) j false
    start f zero e = refl
    start f (suc j) e = input f j e (cases_lt j n) (cases_eq j k)

    at : (in_output_cone n net (suc k) ≡ true) ⊎ (in_output_cone n net (suc k) ≡ false) → in_output_cone n net (suc k) ≡ true
    at (inl e) = e
    at (inr f) = absurd (d.differ (sym (c d.row d.row_below) ∙ same_row n net d.row d.other (start f) ∙ c d.other d.other_below))

-- the ones of a table are at most the sum of what stands above each of its bits
ones_within : (r t : ℕ) (g : ℕ → Bool) (f : ℕ → ℕ) → ((i : ℕ) → i < r → one (g (t + i)) ≤ f i) → ones (table_from r t g) ≤ sum r f
unfolding table_from sum
ones_within zero t g f h = ones-le 0 0 (omega arith)
ones_within (suc r) t g f h =
    let b = one (g t) in
    let x = table_from r (t + 1) g in
    let s = one_small (g t) in
    let low : (one (g t) + 2 * table_from r (t + 1) g) % 2 ≡ one (g t) = omega arith in
    let high : (one (g t) + 2 * table_from r (t + 1) g) / 2 ≡ table_from r (t + 1) g = omega arith in
    let here : one (g t) ≤ f 0 = let e : t + 0 ≡ t = omega arith in rw e at (h 0 (omega arith)) in
    let rest = ones_within r (t + 1) g (λ i. f (suc i)) (λ i l. let e : t + 1 + i ≡ t + suc i = omega arith in rw e (h (suc i) (omega arith))) in
    rw (ones_step (b + 2 * x), low, high) (omega (arith, sum_front r f))

-- the support is within the cone
support_in_cone : (n table : ℕ) (net : Net) → Computes n table net → support_size n table ≤ sum (suc n) (λ j. weight_if (in_output_cone n net j) 1)
support_in_cone n table net c =
    omega (
      arith,
      ones_within n 0 (depends_at n table) (λ k. weight_if (in_output_cone n net (suc k)) 1) each,
      sum_front n (λ j. weight_if (in_output_cone n net j) 1),
    )
  where
    implied : (a b : Bool) → (a ≡ true → b ≡ true) → one a ≤ weight_if b 1
    implied true b h = rw (h refl) (omega arith)
    implied false b h = omega arith

    each : (k : ℕ) → k < n → one (depends_at n table (0 + k)) ≤ weight_if (in_output_cone n net (suc k)) 1
    each k l =
        rw (zero-add k) (implied (depends_at n table k) (in_output_cone n net (suc k)) (λ e. depends_in_cone n table k net c ((decides_depends n table k l).0 e)))

-- a network of at most r gates computes a table of at most 2 r + 1 inputs in its support
pub support_by_gates : (n table : ℕ) → GateBound n table (support_size n table)
support_by_gates n table r net o c h =
    omega (arith, support_in_cone n table net c, cone_by_gates net.gates (suc n) (node net.output))

-- a network of level at most d computes a table of at most 3 ^ d inputs in its support
pub support_by_level : (n table : ℕ) → LevelBound n table (support_size n table)
support_by_level n table d net o c h =
    let a = support_in_cone n table net c in
    let b = cone_by_levels net.gates (replicate (n + 1) 0) (suc n) (node net.output) (omega (arith, length-replicate {A = ℕ} (n + 1) 0)) in
    let e = sum_le (suc n) (λ j. weight_if (in_output_cone n net j) 1) (λ j. weight_if (in_output_cone n net j) (3 ^ get_or (replicate (n + 1) 0) j 0))
    (λ j l. rw (get_or-replicate {A = ℕ} (n + 1) j 0 0 (omega arith)) (omega arith)) in
    let k : get_or (walk levels (replicate (n + 1) 0) net.gates) (node net.output) 0 ≤ d = rw (level_at (walk levels (replicate (n + 1) 0) net.gates) net.output) at h in
    let m : 3 ^ get_or (walk levels (replicate (n + 1) 0) net.gates) (node net.output) 0 ≤ 3 ^ d = pow-le-pow_right (omega arith) k in
    omega arith
