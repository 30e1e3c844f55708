-- The test on rows decides whether a table depends on an input, and the mask has its answers.
use Rattle.std.proofs.Common.{◌≡◌, ℕ, suc, ◌+◌, ◌-◌, ◌*◌, ◌/◌, ◌%◌, ◌^◌, ◌<◌, ◌≤◌, Bool, true, false, not, eqb, ◌⊎◌, Decides, sym, refl, ap, ◌∙◌, subst, inl, inr, one-mul, zero-add, arith, pow-add}
use mathlib.Core.Bool.{beq}
use native.Mathlib.Nat.{pow-succ', div-eq_of_lt}
use lib.Bits.{bit_xor, xor_lt}
use lib.Pow.{pow-lt, shl-shr}
use Rattle.std.specs.List.{list_any, range_with_len}
use Rattle.std.proofs.lemmas.List.Folds.{Any-from_list_any, list_any_at}
use Rattle.std.proofs.lemmas.List.FromFn.{length-range_with_len, get_or-range_with_len}
use Rattle.std.proofs.lemmas.Bool.{eq-eqb, ne_eqb, cases_eq, cases_lt}
use Rattle.std.proofs.lemmas.Bool.Decides.{Decides-at, Decides-like, Decides-not}
use Rattle.mig.specs.Tables.{bit_at}
use Rattle.mig_laws.proofs.Bits.{bit_at_xor}
use Rattle.mig_laws.proofs.Decisions.{decides_beq}
use Rattle.mig_laws.proofs.Tables.{bits_same, bit_at_table, table_below}
use Rattle.support_laws.specs.Support.{Depends, changes_at, depends_at, support_mask, support_size, CountsInputs}

-- the one bit that is set in a power of two
bit_at_power : (k j : ℕ) → bit_at (2 ^ k) j ≡ eqb j k
bit_at_power k j = at (cases_eq j k) (cases_lt j k)
  where
    at : (j ≡ k) ⊎ (j ≡ k → ⊥) → (j < k) ⊎ (k ≤ j) → bit_at (2 ^ k) j ≡ eqb j k
    at (inl e) l =
        let d : 2 ^ j / 2 ^ j ≡ 1 = ap (λ (x : ℕ). x / 2 ^ j) (sym (one-mul (2 ^ j))) ∙ shl-shr 1 j in
        ap (λ (x : ℕ). eqb (2 ^ x / 2 ^ j % 2) 1) (sym e) ∙ ap (λ (x : ℕ). eqb (x % 2) 1) d ∙ sym (eq-eqb j k e)
    at (inr d) (inl l) =
        let i = k - suc j in
        let e : k ≡ suc (k - suc j) + j = omega arith in
        let q : 2 ^ k / 2 ^ j ≡ 2 * 2 ^ i = ap (λ (x : ℕ). 2 ^ x / 2 ^ j) e ∙ ap (λ (x : ℕ). x / 2 ^ j) (pow-add 2 (suc i) j) ∙ shl-shr (2 ^ suc i) j ∙ pow-succ' 2 i in
        let z : 2 * 2 ^ i % 2 ≡ 0 = omega arith in
        ap (λ (x : ℕ). eqb (x % 2) 1) q ∙ ap (λ (x : ℕ). eqb x 1) z ∙ sym (ne_eqb j k d)
    at (inr d) (inr g) =
        ap (λ (x : ℕ). eqb (x % 2) 1) (div-eq_of_lt (pow-lt (omega arith))) ∙ sym (ne_eqb j k d)

-- an input complemented: the other inputs stay
bit_other : (t k j : ℕ) → (j ≡ k → ⊥) → bit_at (bit_xor t (2 ^ k)) j ≡ bit_at t j
bit_other t k j d = bit_at_xor t (2 ^ k) j ∙ rw (bit_at_power k j, ne_eqb j k d)

-- and its own bit is the other one
bit_complemented : (t k : ℕ) → bit_at (bit_xor t (2 ^ k)) k ≡ not (bit_at t k)
bit_complemented t k = bit_at_xor t (2 ^ k) k ∙ rw (bit_at_power k k, eq-eqb k k refl)

not_from_different : (a b : Bool) → (a ≡ b → ⊥) → not a ≡ b
not_from_different true true d = absurd (d refl)
not_from_different true false d = refl
not_from_different false true d = refl
not_from_different false false d = absurd (d refl)

-- rows that differ in one input alone are one another with that input complemented
row_complemented : (n k s t : ℕ) → k < n → s < 2 ^ n → t < 2 ^ n → ((j : ℕ) → j < n → (j ≡ k → ⊥) → bit_at s j ≡ bit_at t j)
    → (s ≡ t → ⊥) → bit_xor s (2 ^ k) ≡ t
row_complemented n k s t h p q alone d =
    bits_same n (bit_xor s (2 ^ k)) t (xor_lt n s (2 ^ k) p (pow-lt h)) q (λ j l. at j l (cases_eq j k))
  where
    apart : bit_at s k ≡ bit_at t k → ⊥
    apart e = d (bits_same n s t p q (λ j l. each j l (cases_eq j k)))
      where
        each : (j : ℕ) → j < n → (j ≡ k) ⊎ (j ≡ k → ⊥) → bit_at s j ≡ bit_at t j
        each j l (inl i) = rw i e
        each j l (inr i) = alone j l i

    at : (j : ℕ) → j < n → (j ≡ k) ⊎ (j ≡ k → ⊥) → bit_at (bit_xor s (2 ^ k)) j ≡ bit_at t j
    at j l (inl i) = rw i (bit_complemented s k ∙ not_from_different (bit_at s k) (bit_at t k) apart)
    at j l (inr i) = bit_other s k j i ∙ alone j l i

-- whether some number below m passes the test decides whether one of them has what the test decides
decides_any : (p : ℕ → Bool) (P : ℕ → Type 0) (m : ℕ) → ((t : ℕ) → Decides (p t) (P t))
    → Decides (list_any p (range_with_len 0 m)) ((t : ℕ) × (t < m) × P t)
decides_any p P m each = (there, back)
  where
    there : list_any p (range_with_len 0 m) ≡ true → (t : ℕ) × (t < m) × P t
    there e =
        let w = Any-from_list_any p (range_with_len 0 m) e in
        let l : w.0 < m = omega (arith, w.2, length-range_with_len 0 m) in
        (w.1, omega (arith, w.3, get_or-range_with_len 0 m w.0 w.1 l), (each w.1).0 w.4)

    back : (t : ℕ) × (t < m) × P t → list_any p (range_with_len 0 m) ≡ true
    back (t, l, h) =
        list_any_at p (range_with_len 0 m) t 0 (omega (arith, length-range_with_len 0 m))
        (rw (get_or-range_with_len 0 m t 0 l, zero-add t) ((each t).1 h))

-- the test decides whether the table depends on an input
pub decides_depends : (n table k : ℕ) → k < n → Decides (depends_at n table k) (Depends n table (k + 1))
decides_depends n table k h =
    Decides-like (depends_at n table k)
    (λ (t, l, d). record {
      row = t;
      other = bit_xor t (2 ^ k);
      row_below = l;
      other_below = xor_lt n t (2 ^ k) l (pow-lt h);
      alone = λ j i a. sym (bit_other t k j (λ e. a (omega arith)));
      differ = d;
    })
    (λ d. (d.row, d.row_below, λ e. d.differ (e ∙ ap (bit_at table) (row_complemented n k d.row d.other h d.row_below d.other_below (λ j l i. d.alone j l (λ a. i (omega arith))) (λ s. d.differ (ap (bit_at table) s))))))
    (decides_any (changes_at table k) (λ t. bit_at table t ≡ bit_at table (bit_xor t (2 ^ k)) → ⊥) (2 ^ n)
    (λ t. Decides-not (beq (bit_at table t) (bit_at table (bit_xor t (2 ^ k))))
    (decides_beq (bit_at table t) (bit_at table (bit_xor t (2 ^ k))))))

-- the size of the support counts the inputs on which the table depends
pub support_counts : (n table : ℕ) → CountsInputs n table (support_size n table)
support_counts n table =
    record {
      mask = support_mask n table;
      below = table_below n 0 (depends_at n table);
      each = each;
      count = refl;
    }
  where
    each : (i : ℕ) → 1 ≤ i → i ≤ n → Decides (bit_at (support_mask n table) (i - 1)) (Depends n table i)
    each i p q =
        let k = i - 1 in
        let l : i - 1 < n = omega arith in
        let e : i - 1 + 1 ≡ i = omega arith in
        let b : bit_at (support_mask n table) k ≡ depends_at n table k = bit_at_table n 0 (depends_at n table) k l ∙ ap (depends_at n table) (zero-add k) in
        subst (λ (x : ℕ). Decides (bit_at (support_mask n table) k) (Depends n table x)) e
        (Decides-at (bit_at (support_mask n table) k) (depends_at n table k) b (decides_depends n table k l))
