-- The bit of one row.
use Rattle.std.proofs.Common.{◌≡◌, ℕ, zero, suc, ◌<◌, Bool, true, false, [], ◌∷◌, length, get_or, refl, ap, ◌∙◌, inl, inr, arith}
use Rattle.std.proofs.lemmas.List.{length_push, get_or_append_left, get_or_push}
use Rattle.std.proofs.lemmas.Bool.{cases_lt}
use Rattle.mig.specs.Networks.{Lawful, bits}
use Rattle.mig.specs.Tables.{bit_at}
use Rattle.mig.specs.Questions.{input_bits}

-- the bit of one row is a value kind
pub bits_lawful : Lawful bits
bits_lawful = record { twice = twice; all = all }
  where
    twice : (x : Bool) → bits.complement (bits.complement x) ≡ x
    twice true = refl
    twice false = refl

    all : (x y z : Bool) → bits.majority (bits.complement x) (bits.complement y) (bits.complement z) ≡ bits.complement (bits.majority x y z)
    all true true true = refl
    all true true false = refl
    all true false true = refl
    all true false false = refl
    all false true true = refl
    all false true false = refl
    all false false true = refl
    all false false false = refl

pub length-input_bits : (n t : ℕ) → length (input_bits n t) ≡ n
unfolding input_bits
length-input_bits zero t = refl
length-input_bits (suc n) t = rw (length_push (input_bits n t) (bit_at t n)) (let e = length-input_bits n t in omega arith)

-- the input i + 1 in row t
pub get_or-input_bits : (n t i : ℕ) → i < n → get_or (input_bits n t) i false ≡ bit_at t i
unfolding input_bits
get_or-input_bits zero t i h = absurd (omega arith)
get_or-input_bits (suc n) t i h =
    elim (cases_lt i n) [
      | inl l ↦
          get_or_append_left (input_bits n t) (bit_at t n ∷ []) false i (omega (arith, length-input_bits n t))
          ∙ get_or-input_bits n t i l
      | inr g ↦
          let e : n ≡ i = omega arith in
          get_or_push (input_bits n t) (bit_at t n) false i (length-input_bits n t ∙ e) ∙ ap (bit_at t) e
    ]
