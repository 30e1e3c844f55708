-- The value kinds of the code beside the bit of one row: the column of sixteen rows, and the level that stops at 255.
use Rattle.std.specs.Prelude.{◌+◌, min, max}
use Rattle.mig.specs.Networks.{Kind}
use Rattle.mig.specs.Columns.{column_of}
use Rattle.value_kinds.specs.declared.kinds.Column.{Column}
use Rattle.value_kinds.specs.declared.kinds.Level.{Level}

-- the column of sixteen rows
abbrev pub columns : Kind Column
columns =
    record {
      constant = record { rows = (column_of 16).constant };
      complement = λ x. record { rows = (column_of 16).complement x.rows };
      majority = λ x y z. record { rows = (column_of 16).majority x.rows y.rows z.rows };
    }

-- the level, one above the greatest of three, which stops at 255
abbrev pub capped_levels : Kind Level
capped_levels =
    record {
      constant = record { value = 0 };
      complement = λ x. x;
      majority = λ x y z. record { value = min 255 (1 + max x.value (max y.value z.value)) };
    }
