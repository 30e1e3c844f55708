-- The support of a table: the inputs on which it depends, and how many they are.
use Rattle.std.specs.Prelude.{◌≡◌, ℕ, ◌+◌, ◌-◌, ◌*◌, ◌^◌, ◌<◌, ◌≤◌, Bool, not, Decides, ◌≢◌, bit_xor, count_ones}
use Rattle.std.specs.Bool.{beq}
use Rattle.std.specs.List.{list_any, range_with_len}
use Rattle.mig.specs.Networks.{Net, Formed, size}
use Rattle.mig.specs.Tables.{bit_at, table_from}
use Rattle.mig.specs.Questions.{Computes, level}

-- the table over n inputs has different bits in two rows that differ in the input i alone, where inputs are from 1 to n
pub record Depends (n table i : ℕ) : Type 0 where
  pub row : ℕ
  pub other : ℕ
  pub row_below : row < 2 ^ n
  pub other_below : other < 2 ^ n
  pub alone : (j : ℕ) → j < n → (j + 1 ≢ i) → bit_at row j ≡ bit_at other j
  pub differ : bit_at table row ≡ bit_at table other → ⊥

-- the table changes in row t when the input k + 1 is complemented
abbrev pub changes_at : ℕ → ℕ → ℕ → Bool
changes_at table k t = not (beq (bit_at table t) (bit_at table (bit_xor t (2 ^ k))))

-- the test whether the table over n inputs depends on the input k + 1: it changes in some row
abbrev pub depends_at : ℕ → ℕ → ℕ → Bool
depends_at n table k = list_any (changes_at table k) (range_with_len 0 (2 ^ n))

-- the number of n bits whose bit k is set where the table depends on the input k + 1
abbrev pub support_mask : ℕ → ℕ → ℕ
support_mask n table = table_from n 0 (depends_at n table)

-- the number of inputs on which the table over n inputs depends
abbrev pub support_size : ℕ → ℕ → ℕ
support_size n table = count_ones (support_mask n table)

-- s counts the inputs on which the table depends: it is how many bits are set in a mask of n bits, and the bit i - 1 of the
-- mask is set exactly when the table depends on the input i
pub record CountsInputs (n table s : ℕ) : Type 0 where
  pub mask : ℕ
  pub below : mask < 2 ^ n
  pub each : (i : ℕ) → 1 ≤ i → i ≤ n → Decides (bit_at mask (i - 1)) (Depends n table i)
  pub count : s ≡ count_ones mask

-- s is at most 2 r + 1, for every r such that a well-formed network of at most r gates computes the table
abbrev pub GateBound : ℕ → ℕ → ℕ → Type 0
GateBound n table s = (r : ℕ) (net : Net) → Formed n net → Computes n table net → size net ≤ r → s ≤ 2 * r + 1

-- s is at most 3 ^ d, for every d such that a well-formed network of level at most d computes the table
abbrev pub LevelBound : ℕ → ℕ → ℕ → Type 0
LevelBound n table s = (d : ℕ) (net : Net) → Formed n net → Computes n table net → level n net ≤ d → s ≤ 3 ^ d
