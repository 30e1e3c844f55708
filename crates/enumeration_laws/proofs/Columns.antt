-- The columns of codes, from the inputs on, gate by gate.
use Rattle.std.proofs.Common.{◌≡◌, ℕ, zero, suc, ◌+◌, ◌*◌, ◌<◌, ◌≤◌, Bool, true, eqb, ◌≢◌, ◌⊎◌, List, [], ◌∷◌, ◌++◌, length, get_or, set, sym, refl, ap, ◌∙◌, inl, inr, arith, length-set, get_or-set_other, get_or-set_same}
use Rattle.std.proofs.lemmas.List.{length-map, length_push}
use Rattle.std.proofs.lemmas.Bool.{cases_eq, cases_lt, eqb-true}
use Rattle.std.proofs.lemmas.Bool.Decides.{Decides-below_and}
use Rattle.mig.specs.declared.network.Gate.{Gate}
use Rattle.mig.specs.Networks.{GateBelow, walk, value_at}
use Rattle.mig.specs.Tables.{bit_at, table_from}
use Rattle.mig.specs.Columns.{input_columns}
use Rattle.mig.specs.Rules.{all_below}
use Rattle.value_kinds.specs.declared.kinds.Column.{Column}
use Rattle.value_kinds.specs.Kinds.{columns}
use Rattle.enumeration_laws.specs.Columns.{column, start_columns, node_columns, CodeColumns, gate_column}
use Rattle.enumeration_laws.proofs.Values.{earlier_code, newest_plain, newest_complemented}

-- the rows of the columns of the codes of the constant and of four inputs, and room for seven gates
abbrev pub first_rows : List ℕ
first_rows = 0 ∷ 0xffff ∷ 0xaaaa ∷ 0x5555 ∷ 0xcccc ∷ 0x3333 ∷ 0xf0f0 ∷ 0x0f0f ∷ 0xff00 ∷ 0x00ff ∷ 0 ∷ 0 ∷ 0 ∷ 0 ∷ 0 ∷
    0 ∷ 0 ∷ 0 ∷ 0 ∷ 0 ∷ 0 ∷ 0 ∷ 0 ∷ 0 ∷ []

-- the start's column of the code is that of the definitions
abbrev same_at : ℕ → ℕ → Bool
same_at n c = eqb (get_or first_rows c 0) (value_at columns (node_columns n []) c).rows

pub first_columns : (n : ℕ) (list : List Column) → n ≤ 4
    → ((c : ℕ) → c < 24 → get_or list c (column 0) ≡ column (get_or first_rows c 0)) → CodeColumns n [] list
unfolding walk input_columns table_from all_below
first_columns n list few is c below =
    is c (omega arith)
    ∙ ap column
    (eqb-true _ _ ((Decides-below_and (same_at n) (λ c. same_at n c ≡ true) (λ k. all_below k (same_at n))
    (λ c. (λ e. e, λ e. e)) refl (λ _. refl) (2 * (n + 1 + 0))).0 (all n few) c below))
  where
    all : (n : ℕ) → n ≤ 4 → all_below (2 * (n + 1 + 0)) (same_at n) ≡ true
    all zero h = refl
    all (suc zero) h = refl
    all (suc (suc zero)) h = refl
    all (suc (suc (suc zero))) h = refl
    all (suc (suc (suc (suc zero)))) h = refl
    all (suc (suc (suc (suc (suc n))))) h = absurd (omega arith)

-- how many nodes stand before the gates
length_inputs : (n : ℕ) → length (0 ∷ input_columns 16 n) ≡ n + 1
unfolding input_columns
length_inputs zero = refl
length_inputs (suc n) =
    let e = length_inputs n in
    let p = length_push (0 ∷ input_columns 16 n) (table_from 16 0 (λ t. bit_at t n)) in
    omega arith

pub length_nodes : (n : ℕ) (gates : List Gate) → length (start_columns n) + length gates ≡ n + 1 + length gates
length_nodes n gates = ap (λ m. m + length gates) (length-map (0 ∷ input_columns 16 n) column ∙ length_inputs n)

-- the column of a gate, from those of its codes
pub column_of_gate : (n : ℕ) (gates : List Gate) (g : Gate) (list : List Column) → CodeColumns n gates list
    → GateBelow (n + 1 + length gates) g
    → columns.majority (get_or list g.first (column 0)) (get_or list g.second (column 0))
    (get_or list g.third (column 0)) ≡ gate_column n gates g
column_of_gate n gates g list are below =
    let x = are g.first (omega arith) in
    let y = are g.second (omega arith) in
    let z = are g.third (omega arith) in
    cc

-- the columns with those of one gate more, the node k
pub columns_longer : (n : ℕ) (gates : List Gate) (g : Gate) (list : List Column) (k : ℕ) (x : Column)
    → n + 1 + length gates ≡ k → x ≡ gate_column n gates g → 2 * k + 1 < length list
    → CodeColumns n gates list
    → CodeColumns n (gates ++ g ∷ []) (set (set list (2 * k) x) (2 * k + 1) (columns.complement x))
columns_longer n gates g list k x nodes is room are c below = at (cases_lt c (2 * k)) (cases_eq c (2 * k))
  where
    count : length (start_columns n) + length gates ≡ k
    count = length_nodes n gates ∙ nodes

    at : (c < 2 * k) ⊎ (2 * k ≤ c) → (c ≡ 2 * k) ⊎ (c ≡ 2 * k → ⊥)
        → get_or (set (set list (2 * k) x) (2 * k + 1) (columns.complement x)) c (column 0)
        ≡ value_at columns (node_columns n (gates ++ g ∷ [])) c
    at (inl less) e =
        let a : c ≢ 2 * k + 1 = omega arith in
        let b : c ≢ 2 * k = omega arith in
        rw (get_or-set_other, get_or-set_other)
        (are c (omega arith) ∙ sym (earlier_code columns (start_columns n) gates g k count c (omega arith)))
    at (inr more) (inl e) =
        let a : 2 * k ≢ 2 * k + 1 = omega arith in
        let b : 2 * k < length list = omega arith in
        rw (e, get_or-set_other, get_or-set_same) (is ∙ sym (newest_plain columns (start_columns n) gates g k count))
    at (inr more) (inr e) =
        let f : c ≡ 2 * k + 1 = omega (arith, length_push gates g) in
        let a : 2 * k + 1 < length (set list (2 * k) x) = omega (arith, length-set list (2 * k) x) in
        rw (f, get_or-set_same)
        (ap columns.complement is ∙ sym (newest_complemented columns (start_columns n) gates g k count))
