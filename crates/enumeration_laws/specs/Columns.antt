-- The columns of sixteen rows over given gates, and which of them are the table.
use Rattle.std.specs.Prelude.{◌≡◌, ℕ, ◌+◌, ◌-◌, ◌*◌, ◌^◌, ◌<◌, Bool, cond, List, ◌∷◌, map, length, Some, None, Option, ◌==◌, bit_and, slice_index_or}
use Rattle.mig.specs.declared.network.Gate.{Gate}
use Rattle.mig.specs.declared.question.Question.{Question}
use Rattle.mig.specs.Networks.{walk, value_at, gate_value}
use Rattle.mig.specs.Columns.{input_columns}
use Rattle.value_kinds.specs.declared.kinds.Column.{Column}
use Rattle.value_kinds.specs.Kinds.{columns}

-- the column of a number whose bit t is the value in row t
abbrev pub column : ℕ → Column
column rows = record { rows = rows }

-- the columns of the constant and of n inputs
abbrev pub start_columns : ℕ → List Column
start_columns n = map column (0 ∷ input_columns 16 n)

-- the columns of the nodes over n inputs and the gates
abbrev pub node_columns : ℕ → List Gate → List Column
node_columns n gates = walk columns (start_columns n) gates

-- the list has the column of each code over n inputs and the gates
abbrev pub CodeColumns : ℕ → List Gate → List Column → Type 0
CodeColumns n gates list = (c : ℕ) → c < 2 * (n + 1 + length gates)
    → slice_index_or list c columns.constant ≡ value_at columns (node_columns n gates) c

-- the column of one gate more
abbrev pub gate_column : ℕ → List Gate → Gate → Column
gate_column n gates g = gate_value columns (node_columns n gates) g

-- the column is the table in the rows over the inputs
abbrev pub is_table : Question → Column → Bool
is_table q x = bit_and x.rows (2 ^ (2 ^ q.inputs) - 1) == q.table

-- the code of the node k, which has the column, under which it is the table
abbrev pub fitting_code : Question → ℕ → Column → Option ℕ
fitting_code q k x =
    cond (is_table q x) (Some (2 * k)) (cond (is_table q (columns.complement x)) (Some (2 * k + 1)) None)
