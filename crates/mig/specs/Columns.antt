-- The values of a node in many rows at once, as the bits of one number.
use Rattle.std.specs.Prelude.{ℕ, zero, suc, ◌-◌, ◌^◌, List, [], ◌∷◌, ◌++◌, bit_and, bit_or, bit_xor}
use Rattle.mig.specs.Networks.{Kind}
use Rattle.mig.specs.Tables.{bit_at, table_from}

-- the kind of the column of r rows: bit t is the value in row t
abbrev pub column_of : ℕ → Kind ℕ
column_of r =
    record {
      constant = 0;
      complement = λ x. bit_xor x (2 ^ r - 1);
      majority = λ x y z. bit_or (bit_and x y) (bit_and z (bit_or x y));
    }

-- the columns of the first n inputs in r rows: row t gives input i the bit i - 1 of t
unfoldable pub input_columns : ℕ → ℕ → List ℕ
input_columns r zero = []
input_columns r (suc n) = input_columns r n ++ (table_from r 0 (λ t. bit_at t n) ∷ [])
