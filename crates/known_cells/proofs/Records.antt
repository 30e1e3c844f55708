-- The first part of the bytes of the known record.
use Rattle.std.proofs.Common.{◌≡◌, ℕ, List, [], ◌∷◌, Some, None, Ok, Option, MatchOption, refl, arith}
use Rattle.records.specs.declared.reader.Part.{Part}
use Rattle.records.specs.Records.{gates_from, record_at}
use Rattle.records.specs.Parts.{parts_of}
use Rattle.records.proofs.Steps.{record_first}
use Rattle.known_cells.specs.Table.{question, one_gate, deposit_of_majority}

-- a record of length 13 and kind 1
abbrev pub bytes : List ℕ
bytes = 0x0d ∷ 0 ∷ 1 ∷ 0 ∷ 3 ∷ 0xe8 ∷ 0 ∷ 1 ∷ 1 ∷ 0 ∷ 1 ∷ 2 ∷ 4 ∷ 6 ∷ 8 ∷ []

is_the_record : record_at bytes ≡ Ok (record { question = question 3 0xe8 1 1; network = one_gate 2 4 6 8 })
unfolding gates_from
is_the_record = refl

-- what is first is what is given
given : (xs ys : List Part) (r : Option Part) (p : Part) (ps : List Part) → xs ≡ p ∷ ps → MatchOption r ((xs ≡ []) × (ys ≡ [])) (λ x. xs ≡ x ∷ ys) → r ≡ Some p
given xs ys None p ps e h = let none = h.0 in absurd cc
given xs ys (Some x) p ps e h = cc

pub first_given : (ys : List Part) (r : Option Part) → MatchOption r ((parts_of bytes ≡ []) × (ys ≡ [])) (λ x. parts_of bytes ≡ x ∷ ys) → r ≡ Some deposit_of_majority
first_given ys r h = given (parts_of bytes) ys r deposit_of_majority _ (record_first 0 bytes _ (omega arith) is_the_record) h
