use Rattle.std.proofs.Common.{rules, ◌≡◌, ℕ, ◌<◌, ◌^◌, false, eqb, ap, ◌∙◌, zero-add, eqb→eq}
use Rattle.mig.specs.Rules.{all_below}
use Rattle.mig.specs.Tables.{bit_at, table_from}
use Rattle.mig_laws.proofs.Tables.{table-bits}
use Rattle.class_laws.specs.Ways.{carry_table, old_row}
use Rattle.class_laws.proofs.Small.{below}
use Rattle.classes.specs.Reach.{by}
use Rattle.classes.proofs.candidate.Candidate.unmoved.Goals as goal

row_stays : (t : ℕ) → t < 16 → old_row 0 0 t ≡ t
unfolding old_row table_from all_below
row_stays t h = eqb→eq (old_row 0 0 t) t (below 16 (λ i. eqb (old_row 0 0 i) i) tt t h)

table_stays : (f : ℕ) → f < 2 ^ 16 → carry_table (by 0 0 false) f ≡ f
table_stays f h = table-bits 16 0 f (λ t. bit_at f (old_row 0 0 t)) h (λ i l. ap (λ (t : ℕ). bit_at f (old_row 0 0 t)) (zero-add i) ∙ ap (bit_at f) (row_stays i l))

pub invariant_of-result-2 : goal.invariant_of-result-2
invariant_of-result-2 c = record { reached = search (rules, table_stays) }
