-- Networks without gates.
use Rattle.std.proofs.Common.{◌≡◌, ℕ, ◌+◌, ◌*◌, ◌<◌, ◌≤◌, cond, ltb, ◌⊎◌, List, [], Some, None, Option, length, get_or, take, position, sym, ap, ◌∙◌, inl, inr, arith}
use Rattle.std.specs.List.{position_or_len}
use Rattle.std.proofs.lemmas.Bool.{both_ways, cases_lt, lt-ltb}
use Rattle.std.proofs.lemmas.List.{length-take, get_or-take}
use Rattle.std.proofs.lemmas.List.Quantifiers.{position-Some}
use Rattle.std.proofs.lemmas.List.Sums.{fails_before_first}
use Rattle.mig.specs.declared.question.Question.{Question}
use Rattle.mig.specs.Networks.{Ordered, size, value_at}
use Rattle.mig.specs.Questions.{Valid, Meets}
use Rattle.mig_laws.proofs.Levels.{level_bound}
use Rattle.value_kinds.specs.declared.kinds.Column.{Column}
use Rattle.value_kinds.specs.Kinds.{columns}
use Rattle.enumeration_laws.specs.Columns.{column, node_columns, CodeColumns, is_table}
use Rattle.enumeration_laws.specs.Prefixes.{NoneWithoutGates, without_gates}
use Rattle.enumeration_laws.proofs.Fits.{table_decides}

-- the first code whose column is the table meets the question as output
pub meets_without_gates : (q : Question) (list : List Column) (code : ℕ) → Valid q → CodeColumns q.inputs [] list
    → position (is_table q) (take (2 * (q.inputs + 1)) list) ≡ Some code → Meets q (without_gates code)
unfolding Ordered
meets_without_gates q list code valid are first =
    let at = position-Some (is_table q) (take (2 * (q.inputs + 1)) list) code (column 0) first in
    let below : code < 2 * (q.inputs + 1) = omega (arith, length-take {A = Column}) in
    record {
      formed = record { gates = tt; output = omega arith };
      computes = (table_decides q (without_gates code) (get_or list code (column 0)) valid (are code (omega arith))).0
          (rw get_or-take at at.1);
      within = record { level = omega (arith, level_bound q.inputs (without_gates code)); fan_outs = λ j a b. absurd (omega arith) };
    }

-- there is none if no code's column is the table
pub none_without_gates : (q : Question) (list : List Column) → Valid q → CodeColumns q.inputs [] list → length list ≡ 24
    → position (is_table q) (take (2 * (q.inputs + 1)) list) ≡ None → NoneWithoutGates q
none_without_gates q list valid are room none net same meets =
    let n = q.inputs in
    let s : size net ≡ 0 = ap length same in
    let out = meets.formed.output in
    let below : net.output < 2 * (n + 1) = omega arith in
    let late = past (position_or_len (is_table q) (take (2 * (n + 1)) list)) (length (take (2 * (n + 1)) list)) none in
    let early : net.output < position_or_len (is_table q) (take (2 * (n + 1)) list) =
    omega (arith, length-take {A = Column}) in
    both_ways (is_table q (get_or list net.output (column 0)))
    (rw get_or-take at (fails_before_first (is_table q) (take (2 * (n + 1)) list) net.output (column 0) early))
    ((table_decides q net (get_or list net.output (column 0)) valid
    (are net.output (omega arith) ∙ ap (λ gs. value_at columns (node_columns n gs) net.output) (sym same))).1
    meets.computes)
  where
    past : (a b : ℕ) → ◌≡◌ {A = Option ℕ} (cond (ltb a b) (Some a) None) None → b ≤ a
    past a b e = at (cases_lt a b)
      where
        at : (a < b) ⊎ (b ≤ a) → b ≤ a
        at (inl less) = let t = lt-ltb a b less in absurd (cc)
        at (inr h) = h
