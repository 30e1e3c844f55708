-- Tables and their rows, for every number of rows.
use Rattle.std.proofs.Common.{◌≡◌, ℕ, zero, suc, ◌+◌, ◌-◌, ◌*◌, ◌/◌, ◌%◌, ◌^◌, ◌<◌, ◌≤◌, Bool, true, false, cond, not, eqb, sym, refl, ap, ◌∙◌, ap₂, zero-add, div-one, mul_left_comm, arith}
use native.Mathlib.Nat.{pow-succ', div-div-eq-div-mul, pow-zero}
use Rattle.std.proofs.lemmas.Nat.{mod_low}
use Rattle.mig.specs.Tables.{bit_at, table_from}

-- the row t, and the rows behind it
plain : (t : ℕ) → t ≡ t + 0
plain t = omega arith

moved : (t i : ℕ) → (t + 1) + i ≡ t + suc i
moved t i = omega arith

-- a bit as a number
abbrev pub one : Bool → ℕ
one b = cond b 1 0

pub one_small : (b : Bool) → one b ≤ 1
one_small true = omega arith
one_small false = omega arith

pub one_back : (b : Bool) → eqb (one b % 2) 1 ≡ b
one_back true = refl
one_back false = refl

pub parity : (a : ℕ) → a ≤ 1 → one (eqb a 1) ≡ a
parity zero h = refl
parity (suc zero) h = refl
parity (suc (suc a)) h = absurd (omega arith)

bit_at_zero : (m : ℕ) → bit_at m 0 ≡ eqb (m % 2) 1
bit_at_zero m = ap (λ (x : ℕ). eqb (x % 2) 1) (div-one m)

bit_at_suc : (m i : ℕ) → bit_at m (suc i) ≡ bit_at (m / 2) i
bit_at_suc m i =
    ap (λ (x : ℕ). eqb (x % 2) 1) (ap (λ (y : ℕ). m / y) (pow-succ' 2 i) ∙ sym (div-div-eq-div-mul m 2 (2 ^ i)))

pub bit_at_table : (r t : ℕ) (g : ℕ → Bool) (i : ℕ) → i < r → bit_at (table_from r t g) i ≡ g (t + i)
unfolding table_from
bit_at_table zero t g i h = absurd (omega arith)
bit_at_table (suc r) t g zero h =
    bit_at_zero (one (g t) + 2 * table_from r (t + 1) g)
    ∙ ap (λ (x : ℕ). eqb x 1) (low (one (g t)) (table_from r (t + 1) g))
    ∙ one_back (g t)
    ∙ ap g (plain t)
  where
    low : (a b : ℕ) → (a + 2 * b) % 2 ≡ a % 2
    low a b = omega arith
bit_at_table (suc r) t g (suc i) h =
    bit_at_suc (one (g t) + 2 * table_from r (t + 1) g) i
    ∙ ap (λ (x : ℕ). bit_at x i) (high (one (g t)) (table_from r (t + 1) g) (one_small (g t)))
    ∙ bit_at_table r (t + 1) g i (omega arith)
    ∙ ap g (moved t i)
  where
    high : (a b : ℕ) → a ≤ 1 → (a + 2 * b) / 2 ≡ b
    high a b l = omega arith

pub table_below : (r t : ℕ) (g : ℕ → Bool) → table_from r t g < 2 ^ r
unfolding table_from
table_below zero t g = omega (arith, pow-zero 2)
table_below (suc r) t g = omega (arith, pow-succ' 2 r, one_small (g t), table_below r (t + 1) g)

-- two tables with the same rows
pub table_same : (r t : ℕ) (g h : ℕ → Bool) → ((i : ℕ) → i < r → g (t + i) ≡ h (t + i)) → table_from r t g ≡ table_from r t h
unfolding table_from
table_same zero t g h e = refl
table_same (suc r) t g h e =
    ap₂ (λ (a : Bool) (b : ℕ). one a + 2 * b)
    (ap g (plain t) ∙ e 0 (omega arith) ∙ ap h (sym (plain t)))
    (table_same r (t + 1) g h (λ i l. ap g (moved t i) ∙ e (suc i) (omega arith) ∙ ap h (sym (moved t i))))

-- a number below 2^r is the table of its bits
pub table-bits : (r t f : ℕ) (g : ℕ → Bool) → f < 2 ^ r → ((i : ℕ) → i < r → g (t + i) ≡ bit_at f i) → table_from r t g ≡ f
unfolding table_from
table-bits zero t f g l e = omega (arith, pow-zero 2)
table-bits (suc r) t f g l e =
    let d : g t ≡ eqb (f % 2) 1 = ap g (plain t) ∙ e 0 (omega arith) ∙ bit_at_zero f in
    let q : table_from r (t + 1) g ≡ f / 2 =
    table-bits r (t + 1) (f / 2) g (omega (arith, pow-succ' 2 r)) (λ i b. ap g (moved t i) ∙ e (suc i) (omega arith) ∙ bit_at_suc f i) in
    ap₂ (λ (a : Bool) (b : ℕ). one a + 2 * b) d q ∙ halves f
  where
    halves : (a : ℕ) → one (eqb (a % 2) 1) + 2 * (a / 2) ≡ a
    halves a = omega (arith, parity (a % 2) (omega arith))

-- a table of n rows from the row before t on: that row, and the rows from t on
pub table_down : (n t : ℕ) (g : ℕ → Bool) → 0 < t → t ≤ n → table_from (n - (t - 1)) (t - 1) g ≡ one (g (t - 1)) + 2 * table_from (n - t) t g
unfolding table_from
table_down n t g h l =
    let e : n - (t - 1) ≡ suc (n - t) = omega arith in
    let d : (t - 1) + 1 ≡ t = omega arith in
    ap (λ (k : ℕ). table_from k (t - 1) g) e ∙ ap (λ (k : ℕ). one (g (t - 1)) + 2 * table_from (n - t) k g) d

-- two numbers below 2^r with the same bits are equal
pub bits_same : (r x y : ℕ) → x < 2 ^ r → y < 2 ^ r → ((i : ℕ) → i < r → bit_at x i ≡ bit_at y i) → x ≡ y
bits_same r x y hx hy e =
    sym (table-bits r 0 x (bit_at x) hx (λ i l. ap (bit_at x) (zero-add i)))
    ∙ table-bits r 0 y (bit_at x) hy (λ i l. ap (bit_at x) (zero-add i) ∙ e i l)

-- a number is below two to its own power
pub below_power : (n : ℕ) → n < 2 ^ n
below_power zero = omega (arith, pow-zero 2)
below_power (suc n) = omega (arith, pow-succ' 2 n, below_power n)

-- a table of s + d rows is one of s rows with one of d rows above it
table_split : (s d t : ℕ) (g : ℕ → Bool) → table_from (s + d) t g ≡ table_from d (t + s) g * 2 ^ s + table_from s t g
unfolding table_from
table_split zero d t g =
    let a : zero + d ≡ d = omega arith in
    let b : t + zero ≡ t = omega arith in
    rw (a, b, pow-zero 2) (omega arith)
table_split (suc s) d t g =
    let a : suc s + d ≡ suc (s + d) = omega arith in
    let b : t + suc s ≡ (t + 1) + s = omega arith in
    let rest = table_split s d (t + 1) g in
    let p : table_from d ((t + 1) + s) g * 2 ^ suc s ≡ 2 * (table_from d ((t + 1) + s) g * 2 ^ s) =
    ap (λ (x : ℕ). table_from d ((t + 1) + s) g * x) (pow-succ' 2 s) ∙ mul_left_comm (table_from d ((t + 1) + s) g) 2 (2 ^ s) in
    rw (a, b) (omega (arith, rest, p))

-- the first s rows of a table
pub table_front : (r s : ℕ) (g : ℕ → Bool) → s ≤ r → table_from r 0 g % 2 ^ s ≡ table_from s 0 g
table_front r s g h =
    let e : r ≡ s + (r - s) = omega arith in
    ap (λ (k : ℕ). table_from k 0 g % 2 ^ s) e
    ∙ ap (λ (x : ℕ). x % 2 ^ s) (table_split s (r - s) 0 g)
    ∙ mod_low (table_from (r - s) (0 + s) g) s (table_from s 0 g) (table_below s 0 g)

-- complementing each row
pub table-not : (r t : ℕ) (g : ℕ → Bool) → table_from r t (λ i. not (g i)) + table_from r t g + 1 ≡ 2 ^ r
unfolding table_from
table-not zero t g = refl
table-not (suc r) t g = omega (arith, table-not r (t + 1) g, pow-succ' 2 r, opposite (g t))
  where
    opposite : (b : Bool) → one (not b) + one b ≡ 1
    opposite true = refl
    opposite false = refl
