-- A column of rows is a value kind for every number of rows, and bit t of it is the value in row t.
use Rattle.std.proofs.Common.{◌≡◌, ℕ, zero, suc, ◌+◌, ◌-◌, ◌%◌, ◌^◌, ◌<◌, Bool, true, false, cond, not, ◌&&◌, ◌||◌, eqb, List, [], ◌∷◌, ◌++◌, map, length, get_or, sym, refl, ap, ◌∙◌, subst, ap₂, zero-add, arith, pow_pos}
use native.Mathlib.Nat.{zero-div, pow-succ'}
use lib.Bits.{bit_and, bit_or, bit_xor, xor_assoc, xor_zero_r, xor_self, xor_lt, or_lt, and_lt}
use Rattle.std.proofs.lemmas.List.{map_push}
use Rattle.mig.specs.Networks.{Net, Lawful, majority, bits, output_value}
use Rattle.mig.specs.Tables.{bit_at, table_from}
use Rattle.mig.specs.Columns.{column_of, input_columns}
use Rattle.mig.specs.Questions.{input_bits, row_bit}
use Rattle.mig_laws.proofs.Tables.{bit_at_table, table-bits, table_below}
use Rattle.mig_laws.proofs.Bits.{same_bits, bit_at_and, bit_at_or, bit_at_xor}
use Rattle.mig_laws.proofs.Walks.{Carries, output_carried, get_or-snoc, walk_keeps_property}

-- each bit of a majority is the majority of the bits
bit_at_majority : (x y z i : ℕ) → bit_at (bit_or (bit_and x y) (bit_and z (bit_or x y))) i ≡ majority (bit_at x i) (bit_at y i) (bit_at z i)
bit_at_majority x y z i =
    bit_at_or (bit_and x y) (bit_and z (bit_or x y)) i
    ∙ ap₂ (λ a b. a || b) (bit_at_and x y i) (bit_at_and z (bit_or x y) i ∙ ap (λ b. bit_at z i && b) (bit_at_or x y i))
    ∙ by_cases (bit_at x i) (bit_at y i) (bit_at z i)
  where
    by_cases : (a b c : Bool) → ((a && b) || (c && (a || b))) ≡ majority a b c
    by_cases true true c = refl
    by_cases true false true = refl
    by_cases true false false = refl
    by_cases false true true = refl
    by_cases false true false = refl
    by_cases false false true = refl
    by_cases false false false = refl

-- the laws of a value kind, for every number of rows
pub column_lawful : (r : ℕ) → Lawful (column_of r)
column_lawful r =
    record {
      twice = λ x. xor_assoc x (2 ^ r - 1) (2 ^ r - 1) ∙ ap (bit_xor x) (xor_self (2 ^ r - 1)) ∙ xor_zero_r x;
      all = λ x y z. same_bits _ _ (λ i. each x y z i);
    }
  where
    by_cases : (m a b c : Bool) → majority (cond m (not a) a) (cond m (not b) b) (cond m (not c) c) ≡ cond m (not (majority a b c)) (majority a b c)
    by_cases true true true true = refl
    by_cases true true true false = refl
    by_cases true true false true = refl
    by_cases true true false false = refl
    by_cases true false true true = refl
    by_cases true false true false = refl
    by_cases true false false true = refl
    by_cases true false false false = refl
    by_cases false a b c = refl

    each : (x y z i : ℕ)
        → bit_at ((column_of r).majority ((column_of r).complement x) ((column_of r).complement y) ((column_of r).complement z)) i
        ≡ bit_at ((column_of r).complement ((column_of r).majority x y z)) i
    each x y z i =
        let m = 2 ^ r - 1 in
        let p = bit_at_majority (bit_xor x m) (bit_xor y m) (bit_xor z m) i in
        let q = bit_at_xor x m i in
        let s = bit_at_xor y m i in
        let t = bit_at_xor z m i in
        let u = by_cases (bit_at m i) (bit_at x i) (bit_at y i) (bit_at z i) in
        let v = bit_at_xor ((column_of r).majority x y z) m i in
        let w = bit_at_majority x y z i in
        cc

-- all bits of 2^r - 1 below r are set
all_ones : (r t : ℕ) → table_from r t (λ _. true) + 1 ≡ 2 ^ r
unfolding table_from
all_ones zero t = refl
all_ones (suc r) t = omega (arith, all_ones r (t + 1), pow-succ' 2 r)

bit_at_ones : (r i : ℕ) → i < r → bit_at (2 ^ r - 1) i ≡ true
bit_at_ones r i h =
    let e : 2 ^ r - 1 ≡ table_from r 0 (λ _. true) = omega (arith, all_ones r 0) in
    ap (λ (x : ℕ). bit_at x i) e ∙ bit_at_table r 0 (λ _. true) i h

bit_at_none : (i : ℕ) → bit_at 0 i ≡ false
bit_at_none i = ap (λ (x : ℕ). eqb (x % 2) 1) (zero-div (2 ^ i))

-- the bit of a row below r is a value of the bit's kind
row_of_column : (r t : ℕ) → t < r → Carries (column_of r) bits (λ x. bit_at x t)
row_of_column r t h =
    record {
      constant = bit_at_none t;
      complement = λ x. bit_at_xor x (2 ^ r - 1) t ∙ ap (λ (b : Bool). cond b (not (bit_at x t)) (bit_at x t)) (bit_at_ones r t h);
      majority = λ x y z. bit_at_majority x y z t;
    }

-- bit t of the inputs' columns is what row t gives the inputs
row_of_inputs : (r n t : ℕ) → t < r → map (λ x. bit_at x t) (input_columns r n) ≡ input_bits n t
unfolding input_columns input_bits
row_of_inputs r zero t h = refl
row_of_inputs r (suc n) t h =
    map_push (λ x. bit_at x t) (input_columns r n) (table_from r 0 (λ i. bit_at i n))
    ∙ ap₂ (λ (xs : List Bool) (x : Bool). xs ++ x ∷ []) (row_of_inputs r n t h) (bit_at_table r 0 (λ i. bit_at i n) t h ∙ ap (λ (i : ℕ). bit_at i n) (zero-add t))

-- bit t of the output's column is the output's bit in row t
column_agrees : (r n t : ℕ) (net : Net) → t < r → bit_at (output_value (column_of r) (0 ∷ input_columns r n) net) t ≡ row_bit n net t
column_agrees r n t net h =
    sym (output_carried (column_of r) bits (λ x. bit_at x t) (row_of_column r t h) (0 ∷ input_columns r n) net)
    ∙ ap (λ vs. output_value bits vs net) (ap₂ (λ (b : Bool) (bs : List Bool). b ∷ bs) (bit_at_none t) (row_of_inputs r n t h))

-- the columns of the constant and the inputs have r bits
start_below : (r n j : ℕ) → get_or (0 ∷ input_columns r n) j 0 < 2 ^ r
unfolding input_columns
start_below r zero j = at j
  where
    at : (j : ℕ) → get_or (0 ∷ []) j 0 < 2 ^ r
    at zero = pow_pos r
    at (suc j) = pow_pos r
start_below r (suc n) j =
    subst (λ (x : ℕ). x < 2 ^ r) (sym (get_or-snoc (0 ∷ input_columns r n) (table_from r 0 (λ t. bit_at t n)) 0 j))
    (pick (eqb j (length (0 ∷ input_columns r n))) (start_below r n j) (table_below r 0 (λ t. bit_at t n)))
  where
    pick : {u v : ℕ} (b : Bool) → v < 2 ^ r → u < 2 ^ r → cond b u v < 2 ^ r
    pick true p q = q
    pick false p q = p

column_below : (r n : ℕ) (net : Net) → output_value (column_of r) (0 ∷ input_columns r n) net < 2 ^ r
column_below r n net =
    walk_keeps_property (column_of r) (λ x. x < 2 ^ r) (λ x p. xor_lt r x (2 ^ r - 1) p (omega (arith, pow_pos r)))
    (λ x y z p q s. or_lt r (bit_and x y) (bit_and z (bit_or x y)) (and_lt r x y p q) (and_lt r z (bit_or x y) s (or_lt r x y p q)))
    (0 ∷ input_columns r n) (start_below r n) net.gates net.output

-- the output's column is the table of the rows' bits
pub column-table : (r n : ℕ) (net : Net) → output_value (column_of r) (0 ∷ input_columns r n) net ≡ table_from r 0 (row_bit n net)
column-table r n net =
    sym (table-bits r 0 (output_value (column_of r) (0 ∷ input_columns r n) net) (row_bit n net) (column_below r n net)
    (λ i h. ap (row_bit n net) (zero-add i) ∙ sym (column_agrees r n i net h)))
