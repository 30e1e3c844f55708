-- Inputs in which a table is symmetric. Inputs are counted from 0 here: the input a is the node a + 1.
use Rattle.std.specs.Prelude.{ℕ, ◌^◌, Bool, cond, ◌==◌}
use Rattle.std.specs.Bool.{beq}
use Rattle.mig.specs.Rules.{all_below}
use Rattle.mig.specs.Tables.{bit_at, table_from}

-- what takes the place of c, where a and b change places
abbrev pub exchange : ℕ → ℕ → ℕ → ℕ
exchange a b c = cond (c == a) b (cond (c == b) a c)

-- the row t of n inputs with the inputs a and b exchanged
abbrev pub exchanged_row : ℕ → ℕ → ℕ → ℕ → ℕ
exchanged_row n a b t = table_from n 0 (λ c. bit_at t (exchange a b c))

-- the table f of n inputs is symmetric in a and b: it stays as it is if they are exchanged
abbrev pub symmetric_in : ℕ → ℕ → ℕ → ℕ → Bool
symmetric_in n f a b = all_below (2 ^ n) (λ t. beq (bit_at f (exchanged_row n a b t)) (bit_at f t))
