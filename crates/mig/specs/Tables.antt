-- Numbers as rows of bits.
use Rattle.std.specs.Prelude.{ℕ, zero, suc, ◌+◌, ◌*◌, ◌/◌, ◌%◌, ◌^◌, Bool, cond, ◌==◌}

-- the bit k of a number
abbrev pub bit_at : ℕ → ℕ → Bool
bit_at m k = (m / (2 ^ k)) % 2 == 1

-- the number of r bits whose bit i is g (t + i)
unfoldable pub table_from : ℕ → ℕ → (ℕ → Bool) → ℕ
table_from zero t g = 0
table_from (suc r) t g = cond (g t) 1 0 + 2 * table_from r (t + 1) g
