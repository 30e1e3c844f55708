-- The permutations as the code has them.
use Rattle.std.specs.Prelude.{◌≡◌, ℕ, ◌<◌, [], slice_index, slice_index_or, bit_xor}
use Rattle.class_laws.specs.Ways.{orders, inverses, old_row}
use Rattle.classes.specs.declared.permutation.Permutation.{Permutation}

-- the permutation whose number is k
pub record IsPermutation (k : ℕ) (p : Permutation) : Type 0 where
  pub sources : p.sources ≡ slice_index_or orders k []
  pub inputs : (a : ℕ) → slice_index p.sources a < 4
  pub rows : (m t : ℕ) → m < 16 → t < 16 → bit_xor (slice_index p.rows t) m ≡ old_row k m t
  pub rows_listed : (m t : ℕ) → m < 16 → t < 16 → bit_xor (slice_index p.rows t) m < 16
  pub inverse : p.inverse ≡ slice_index inverses k
  pub listed : p.inverse < 24
