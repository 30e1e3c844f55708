-- The walk of each kind, in the words of the definitions.
use Rattle.std.proofs.Common.{◌≡◌, ℕ, zero, suc, ◌+◌, ◌≤◌, min, max, [], ◌∷◌, map, take, replicate, refl, ap, ◌∙◌, arith}
use Rattle.mig.specs.Networks.{Net, size, levels, output_value}
use Rattle.mig.specs.Tables.{bit_at, table_from}
use Rattle.mig.specs.Columns.{column_of, input_columns}
use Rattle.mig.specs.Questions.{input_bits, row_bit, level}
use Rattle.mig_laws.proofs.Walks.{Carries, output_carried}
use Rattle.mig_laws.proofs.Columns.{column-table}
use Rattle.mig_laws.proofs.Levels.{level_bound}
use Rattle.value_kinds.specs.declared.kinds.Column.{Column}
use Rattle.value_kinds.specs.declared.kinds.Level.{Level}
use Rattle.value_kinds.specs.Kinds.{columns, capped_levels}

-- the first n of four bits of a row
pub row_inputs : (n t : ℕ) → n ≤ 4 → take n (bit_at t 0 ∷ bit_at t 1 ∷ bit_at t 2 ∷ bit_at t 3 ∷ []) ≡ input_bits n t
unfolding input_bits
row_inputs zero t h = refl
row_inputs (suc zero) t h = refl
row_inputs (suc (suc zero)) t h = refl
row_inputs (suc (suc (suc zero))) t h = refl
row_inputs (suc (suc (suc (suc zero)))) t h = refl
row_inputs (suc (suc (suc (suc (suc n))))) t h = absurd (omega arith)

abbrev column : ℕ → Column
column x = record { rows = x }

-- the first n of the four inputs' columns
column_inputs : (n : ℕ) → n ≤ 4
    → take n (column 0xaaaa ∷ column 0xcccc ∷ column 0xf0f0 ∷ column 0xff00 ∷ []) ≡ map column (input_columns 16 n)
unfolding input_columns table_from
column_inputs zero h = refl
column_inputs (suc zero) h = refl
column_inputs (suc (suc zero)) h = refl
column_inputs (suc (suc (suc zero))) h = refl
column_inputs (suc (suc (suc (suc zero)))) h = refl
column_inputs (suc (suc (suc (suc (suc n))))) h = absurd (omega arith)

-- a number is a column
column_carries : Carries (column_of 16) columns column
column_carries = record { constant = refl; complement = λ x. refl; majority = λ x y z. refl }

pub column_output : (n : ℕ) (net : Net) → n ≤ 4
    → output_value columns (column 0 ∷ take n (column 0xaaaa ∷ column 0xcccc ∷ column 0xf0f0 ∷ column 0xff00 ∷ [])) net ≡ column (table_from 16 0 (row_bit n net))
column_output n net h =
    ap (λ vs. output_value columns (column 0 ∷ vs) net) (column_inputs n h)
    ∙ output_carried (column_of 16) columns column column_carries (0 ∷ input_columns 16 n) net
    ∙ ap column (column-table 16 n net)

-- a level as one that stops at 255
abbrev capped : ℕ → Level
capped x = record { value = min 255 x }

capped_carries : Carries levels capped_levels capped
capped_carries =
    record {
      constant = refl;
      complement = λ x. refl;
      majority = λ x y z. ap (λ (v : ℕ). record { value = v }) (stops x y z);
    }
  where
    stops : (x y z : ℕ) → min 255 (1 + max x (max y z)) ≡ min 255 (1 + max (min 255 x) (max (min 255 y) (min 255 z)))
    stops x y z = omega arith

level_inputs : (n : ℕ) → n ≤ 4
    → capped 0 ∷ take n (capped 0 ∷ capped 0 ∷ capped 0 ∷ capped 0 ∷ []) ≡ map capped (replicate (n + 1) 0)
level_inputs zero h = refl
level_inputs (suc zero) h = refl
level_inputs (suc (suc zero)) h = refl
level_inputs (suc (suc (suc zero))) h = refl
level_inputs (suc (suc (suc (suc zero)))) h = refl
level_inputs (suc (suc (suc (suc (suc n))))) h = absurd (omega arith)

pub level_output : (n : ℕ) (net : Net) → n ≤ 4 → size net ≤ 255
    → (output_value capped_levels (capped 0 ∷ take n (capped 0 ∷ capped 0 ∷ capped 0 ∷ capped 0 ∷ [])) net).value ≡ level n net
level_output n net h few =
    ap (λ vs. (output_value capped_levels vs net).value) (level_inputs n h)
    ∙ ap (λ (v : Level). v.value) (output_carried levels capped_levels capped capped_carries (replicate (n + 1) 0) net)
    ∙ omega (arith, level_bound n net)
