-- A gate as the last one, told by its column.
use Rattle.std.proofs.Common.{◌≡◌, ℕ, ◌+◌, ◌*◌, ◌%◌, ◌^◌, ◌<◌, Bool, true, false, cond, not, eqb, ◌⊎◌, List, [], ◌∷◌, ◌++◌, length, Some, None, Decides, sym, refl, ap, ◌∙◌, subst, inl, inr, arith, pow_pos, pow_mono}
use Rattle.std.proofs.lemmas.Nat.{and_mask}
use Rattle.std.proofs.lemmas.Bool.{cases_Bool, cases_eq, both_ways}
use Rattle.std.proofs.lemmas.Bool.Decides.{Decides-at}
use Rattle.mig.specs.declared.network.Gate.{Gate}
use Rattle.mig.specs.declared.question.Question.{Question}
use Rattle.mig.specs.Networks.{Net, node, walk, gate_value, bits, output_value}
use Rattle.mig.specs.Columns.{column_of, input_columns}
use Rattle.mig.specs.Questions.{Valid, Meets, Computes, row_start}
use Rattle.mig.specs.Rules.{is_computed}
use Rattle.mig_laws.proofs.Columns.{column-table}
use Rattle.mig_laws.proofs.Decisions.{column_decides, decides_computes}
use Rattle.mig_laws.proofs.RowBits.{length-input_bits}
use Rattle.mig_laws.proofs.Walks.{Carries, output_carried}
use Rattle.value_kinds.specs.declared.kinds.Column.{Column}
use Rattle.value_kinds.specs.Kinds.{columns}
use Rattle.enumeration_laws.specs.Columns.{column, start_columns, gate_column, is_table, fitting_code}
use Rattle.enumeration_laws.specs.Prefixes.{NoneEndsWith, with_gate}
use Rattle.enumeration_laws.proofs.Columns.{length_nodes}
use Rattle.enumeration_laws.proofs.Values.{newest_plain, newest_complemented}

-- a number is a column
column_carries : Carries (column_of 16) columns column
column_carries = record { constant = refl; complement = λ x. refl; majority = λ x y z. refl }

-- the output's column tells whether the table is computed
pub table_decides : (q : Question) (net : Net) (x : Column) → Valid q
    → x ≡ output_value columns (start_columns q.inputs) net
    → Decides (is_table q x) (Computes q.inputs q.table net)
table_decides q net x valid is =
    let n = q.inputs in
    let rows = is ∙ output_carried (column_of 16) columns column column_carries (0 ∷ input_columns 16 n) net
    ∙ ap column (column-table 16 n net) in
    Decides-at (is_table q x) (is_computed n q.table net)
    (ap (λ y. eqb y q.table) (and_mask x.rows (2 ^ n) ∙ ap (λ (y : Column). y.rows % 2 ^ (2 ^ n)) rows)
    ∙ column_decides 16 n q.table net (pow_mono {j = 4} valid.inputs) valid.table)
    (decides_computes n q.table net)

same_net : (net : Net) (before : List Gate) (g : Gate) (o : ℕ) → net.gates ≡ before ++ g ∷ [] → net.output ≡ o → net ≡ with_gate before g o
same_net net before g o p q = at net.gates net.output p q
  where
    at : (gs : List Gate) (x : ℕ) → gs ≡ before ++ g ∷ [] → x ≡ o → ◌≡◌ {A = Net} (record { gates = gs; output = x }) (with_gate before g o)
    at gs x e f = rw (e, f)

-- which of two tests chose a code
chosen : (a b : Bool) (x y o : ℕ) → cond a (Some x) (cond b (Some y) None) ≡ Some o → ((a ≡ true) × (x ≡ o)) ⊎ ((b ≡ true) × (y ≡ o))
chosen true b x y o e = inl (refl, cc)
chosen false true x y o e = inr (refl, cc)
chosen false false x y o e = let z : ◌≡◌ {A = ℕ} 0 1 = cc in absurd (omega arith)

-- a gate behind others, the node k, with its column
module _ (q : Question) (before : List Gate) (g : Gate) (k : ℕ) (x : Column) (valid : Valid q)
    (nodes : q.inputs + 1 + length before ≡ k) (is : x ≡ gate_column q.inputs before g) where
  plain_decides : Decides (is_table q x) (Computes q.inputs q.table (with_gate before g (2 * k)))
  plain_decides =
      table_decides q (with_gate before g (2 * k)) x valid
      (is ∙ sym (newest_plain columns (start_columns q.inputs) before g k (length_nodes q.inputs before ∙ nodes)))

  complement_decides : Decides (is_table q (columns.complement x))
      (Computes q.inputs q.table (with_gate before g (2 * k + 1)))
  complement_decides =
      table_decides q (with_gate before g (2 * k + 1)) (columns.complement x) valid
      (ap columns.complement is ∙ sym (newest_complemented columns (start_columns q.inputs) before g k
      (length_nodes q.inputs before ∙ nodes)))

  -- in the first row, a value is not its complement
  never_both : Computes q.inputs q.table (with_gate before g (2 * k)) → Computes q.inputs q.table (with_gate before g (2 * k + 1)) → ⊥
  never_both plain complement =
      let n = q.inputs in
      let long : length (row_start n 0) + length before ≡ k = omega (arith, length-input_bits n 0) in
      let row : 0 < 2 ^ n = pow_pos n in
      not_own (gate_value bits (walk bits (row_start n 0) before) g)
      (sym (newest_plain bits (row_start n 0) before g k long) ∙ plain 0 row ∙ sym (complement 0 row) ∙ newest_complemented bits (row_start n 0) before g k long)
    where
      not_own : (b : Bool) → b ≡ not b → ⊥
      not_own true e = both_ways true e refl
      not_own false e = both_ways false refl e

  -- the output of a network that ends with the gate and computes the table is the code that fits
  only_fit : (net : Net) → net.gates ≡ before ++ g ∷ [] → node net.output ≡ k → Computes q.inputs q.table net
      → fitting_code q k x ≡ Some net.output
  only_fit net same at computes = by (cases_eq net.output (2 * k))
    where
      moved : (o : ℕ) → net.output ≡ o → Computes q.inputs q.table (with_gate before g o)
      moved o e = subst (Computes q.inputs q.table) (same_net net before g o same e) computes

      complemented : net.output ≡ 2 * k + 1 → (is_table q x ≡ true) ⊎ (is_table q x ≡ false)
          → fitting_code q k x ≡ Some net.output
      complemented e (inl t) = absurd (never_both (plain_decides.0 t) (moved (2 * k + 1) e))
      complemented e (inr t) = rw (t, complement_decides.1 (moved (2 * k + 1) e), e)

      by : (net.output ≡ 2 * k) ⊎ (net.output ≡ 2 * k → ⊥) → fitting_code q k x ≡ Some net.output
      by (inl e) = rw (plain_decides.1 (moved (2 * k) e), e)
      by (inr e) = complemented (omega arith) (cases_Bool (is_table q x))

  -- the code that fits computes the table, and names the gate
  pub fit_computes : (o : ℕ) → fitting_code q k x ≡ Some o
      → Computes q.inputs q.table (with_gate before g o) × (node o ≡ k)
  fit_computes o e = by (chosen (is_table q x) (is_table q (columns.complement x)) (2 * k) (2 * k + 1) o e)
    where
      by : ((is_table q x ≡ true) × (2 * k ≡ o)) ⊎ ((is_table q (columns.complement x) ≡ true) × (2 * k + 1 ≡ o))
          → Computes q.inputs q.table (with_gate before g o) × (node o ≡ k)
      by (inl (t, f)) = (subst (λ c. Computes q.inputs q.table (with_gate before g c)) f (plain_decides.0 t), omega arith)
      by (inr (t, f)) = (subst (λ c. Computes q.inputs q.table (with_gate before g c)) f (complement_decides.0 t), omega arith)

  -- no code fits
  pub none_fits : fitting_code q k x ≡ None → NoneEndsWith q before g
  none_fits none net same at meets =
      let s = only_fit net same (at ∙ nodes) meets.computes in
      let z : ◌≡◌ {A = ℕ} 0 1 = cc in
      omega arith

  -- the code that fits does not meet the question
  pub fit_fails : (o : ℕ) → fitting_code q k x ≡ Some o → (Meets q (with_gate before g o) → ⊥) → NoneEndsWith q before g
  fit_fails o fits fails net same at meets =
      let s = only_fit net same (at ∙ nodes) meets.computes in
      let y : net.output ≡ o = cc in
      fails (subst (Meets q) (same_net net before g o same y) meets)
