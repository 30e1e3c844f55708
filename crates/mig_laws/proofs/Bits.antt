-- The bits of a bitwise and, or, exclusive or; numbers with the same bits.
use Rattle.std.proofs.Common.{◌≡◌, ℕ, zero, suc, ◌/◌, ◌%◌, ◌^◌, ◌<◌, ◌≤◌, max, Bool, true, false, cond, not, ◌&&◌, ◌||◌, eqb, refl, ap, ◌∙◌, arith, pow_mono}
use lib.Bits.{bit_and, bit_or, bit_xor, and_shr, or_shr, xor_shr, and_mod, or_mod, xor_mod}
use Rattle.mig.specs.Tables.{bit_at}
use Rattle.mig_laws.proofs.Tables.{bits_same, below_power}

-- numbers with the same bits are equal
pub same_bits : (x y : ℕ) → ((i : ℕ) → bit_at x i ≡ bit_at y i) → x ≡ y
same_bits x y e =
    let r = max x y in
    let p : 2 ^ x ≤ 2 ^ r = pow_mono (omega arith) in
    let q : 2 ^ y ≤ 2 ^ r = pow_mono (omega arith) in
    bits_same r x y (omega (arith, below_power x)) (omega (arith, below_power y)) (λ i l. e i)

-- an operation that goes bit by bit, as f does on a bit: by its law for shifts, its law for the low bits, and its four digits
bit_at_op : (op : ℕ → ℕ → ℕ) (f : Bool → Bool → Bool)
    → ((a b k : ℕ) → op a b / 2 ^ k ≡ op (a / 2 ^ k) (b / 2 ^ k))
    → ((a b k : ℕ) → op a b % 2 ^ k ≡ op (a % 2 ^ k) (b % 2 ^ k))
    → eqb (op 0 0) 1 ≡ f false false
    → eqb (op 0 1) 1 ≡ f false true
    → eqb (op 1 0) 1 ≡ f true false
    → eqb (op 1 1) 1 ≡ f true true
    → (a b i : ℕ) → bit_at (op a b) i ≡ f (bit_at a i) (bit_at b i)
bit_at_op op f shr low d00 d01 d10 d11 a b i =
    ap (λ (x : ℕ). eqb (x % 2) 1) (shr a b i)
    ∙ ap (λ (x : ℕ). eqb x 1) (low (a / 2 ^ i) (b / 2 ^ i) 1)
    ∙ digit (a / 2 ^ i % 2) (b / 2 ^ i % 2) (omega arith) (omega arith)
  where
    digit : (x y : ℕ) → x < 2 → y < 2 → eqb (op x y) 1 ≡ f (eqb x 1) (eqb y 1)
    digit zero zero p q = d00
    digit zero (suc zero) p q = d01
    digit zero (suc (suc y)) p q = absurd (omega arith)
    digit (suc zero) zero p q = d10
    digit (suc zero) (suc zero) p q = d11
    digit (suc zero) (suc (suc y)) p q = absurd (omega arith)
    digit (suc (suc x)) y p q = absurd (omega arith)

pub bit_at_and : (a b i : ℕ) → bit_at (bit_and a b) i ≡ (bit_at a i && bit_at b i)
bit_at_and = bit_at_op bit_and (λ x y. x && y) and_shr and_mod refl refl refl refl

pub bit_at_or : (a b i : ℕ) → bit_at (bit_or a b) i ≡ (bit_at a i || bit_at b i)
bit_at_or = bit_at_op bit_or (λ x y. x || y) or_shr or_mod refl refl refl refl

pub bit_at_xor : (a b i : ℕ) → bit_at (bit_xor a b) i ≡ cond (bit_at b i) (not (bit_at a i)) (bit_at a i)
bit_at_xor = bit_at_op bit_xor (λ x y. cond y (not x) x) xor_shr xor_mod refl refl refl refl
