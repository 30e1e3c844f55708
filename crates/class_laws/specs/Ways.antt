-- The 768 ways to carry a table of four inputs, and its class.
use Rattle.std.specs.Prelude.{◌≡◌, ℕ, zero, suc, ◌+◌, ◌*◌, ◌<◌, ◌≤◌, min, Bool, true, false, cond, List, [], ◌∷◌, ◌≢◌, nat_le, slice_index, slice_index_or}
use Rattle.mig.specs.Networks.{Net}
use Rattle.mig.specs.Tables.{bit_at, table_from}
use Rattle.class_laws.specs.Renaming.{differ, rename_net}

-- the permutations of 0, 1, 2, 3
abbrev pub orders : List (List ℕ)
orders =
    (0 ∷ 1 ∷ 2 ∷ 3 ∷ []) ∷ (0 ∷ 1 ∷ 3 ∷ 2 ∷ []) ∷ (0 ∷ 2 ∷ 1 ∷ 3 ∷ []) ∷ (0 ∷ 2 ∷ 3 ∷ 1 ∷ [])
    ∷ (0 ∷ 3 ∷ 1 ∷ 2 ∷ []) ∷ (0 ∷ 3 ∷ 2 ∷ 1 ∷ []) ∷ (1 ∷ 0 ∷ 2 ∷ 3 ∷ []) ∷ (1 ∷ 0 ∷ 3 ∷ 2 ∷ [])
    ∷ (1 ∷ 2 ∷ 0 ∷ 3 ∷ []) ∷ (1 ∷ 2 ∷ 3 ∷ 0 ∷ []) ∷ (1 ∷ 3 ∷ 0 ∷ 2 ∷ []) ∷ (1 ∷ 3 ∷ 2 ∷ 0 ∷ [])
    ∷ (2 ∷ 0 ∷ 1 ∷ 3 ∷ []) ∷ (2 ∷ 0 ∷ 3 ∷ 1 ∷ []) ∷ (2 ∷ 1 ∷ 0 ∷ 3 ∷ []) ∷ (2 ∷ 1 ∷ 3 ∷ 0 ∷ [])
    ∷ (2 ∷ 3 ∷ 0 ∷ 1 ∷ []) ∷ (2 ∷ 3 ∷ 1 ∷ 0 ∷ []) ∷ (3 ∷ 0 ∷ 1 ∷ 2 ∷ []) ∷ (3 ∷ 0 ∷ 2 ∷ 1 ∷ [])
    ∷ (3 ∷ 1 ∷ 0 ∷ 2 ∷ []) ∷ (3 ∷ 1 ∷ 2 ∷ 0 ∷ []) ∷ (3 ∷ 2 ∷ 0 ∷ 1 ∷ []) ∷ (3 ∷ 2 ∷ 1 ∷ 0 ∷ [])
    ∷ []

-- the place in `orders` of the inverse of each
abbrev pub inverses : List ℕ
inverses =
    0 ∷ 1 ∷ 2 ∷ 4 ∷ 3 ∷ 5 ∷ 6 ∷ 7 ∷ 12 ∷ 18 ∷ 13 ∷ 19 ∷ 8 ∷ 10 ∷ 14 ∷ 20 ∷ 16 ∷ 22 ∷ 9 ∷ 11 ∷ 15 ∷ 21 ∷ 17 ∷ 23 ∷ []

-- a way: the place of a permutation in `orders`, the inputs that are complemented, and whether the output is
pub record Way : Type 0 where
  pub order : ℕ
  pub mask : ℕ
  pub flipped : Bool

-- one of 24 permutations and of 16 masks
abbrev pub IsWay : Way → Type 0
IsWay w = (w.order < 24) × (w.mask < 16)

-- the input, counted from 0, that takes the place of the input a
abbrev pub source : ℕ → ℕ → ℕ
source k a = slice_index (slice_index_or orders k []) a

-- the row that the old table is read at: its bit a is the bit of the new row at the input in a's place, perhaps complemented
unfoldable pub old_row : ℕ → ℕ → ℕ → ℕ
old_row k m t = table_from 4 0 (λ a. differ (bit_at m a) (bit_at t (source k a)))

-- the table carried by a way: its inputs permuted and complemented, and its output perhaps complemented
abbrev pub carry_table : Way → ℕ → ℕ
carry_table w f = table_from 16 0 (λ t. differ w.flipped (bit_at f (old_row w.order w.mask t)))

-- the code that takes the place of the node j
unfoldable pub carried_code : ℕ → ℕ → ℕ → ℕ
carried_code k m zero = 0
carried_code k m (suc a) = cond (nat_le 4 a) (2 * (a + 1)) (2 * (source k a + 1) + cond (bit_at m a) 1 0)

-- the network over four inputs carried by a way
abbrev pub carry_net : Way → Net → Net
carry_net w net = rename_net (carried_code w.order w.mask) (cond w.flipped 1 0) net

-- the way back
abbrev pub inverse : Way → Way
inverse w =
    record {
      order = slice_index inverses w.order;
      mask = table_from 4 0 (λ a. bit_at w.mask (source (slice_index inverses w.order) a));
      flipped = w.flipped;
    }

-- four numbers below 4, no two of them equal
abbrev pub Apart : ℕ → ℕ → ℕ → ℕ → Type 0
Apart x y z u =
    (x < 4) × (y < 4) × (z < 4) × (u < 4)
    × (x ≢ y) × (x ≢ z) × (x ≢ u) × (y ≢ z) × (y ≢ u) × (z ≢ u)

-- every permutation of the four inputs is listed
abbrev pub AllPermutations : Type 0
AllPermutations = (x y z u : ℕ) → Apart x y z u → (k : ℕ) × (k < 24) × (slice_index_or orders k [] ≡ x ∷ y ∷ z ∷ u ∷ [])

-- a way carries the one table to the other
abbrev pub Carries : ℕ → ℕ → Type 0
Carries f g = (w : Way) × IsWay w × (carry_table w f ≡ g)

-- g is the smallest table that a way reaches from f
pub record Representative (f g : ℕ) : Type 0 where
  pub reached : Carries f g
  pub least : (w : Way) → IsWay w → g ≤ carry_table w f

-- the least of f 0, f 1 .. f k
unfoldable pub least_of : ℕ → (ℕ → ℕ) → ℕ
least_of zero f = f 0
least_of (suc k) f = min (least_of k f) (f (suc k))

-- the least table that one of the 24 × 16 × 2 ways reaches
unfoldable pub representative_of : ℕ → ℕ
representative_of f =
    least_of 23 (λ k. least_of 15 (λ m. min (carry_table (record { order = k; mask = m; flipped = false }) f) (carry_table (record { order = k; mask = m; flipped = true }) f)))
