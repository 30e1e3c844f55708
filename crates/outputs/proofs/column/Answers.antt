use Rattle.std.proofs.Common.{◌≡◌, ℕ, ◌<◌, IfOk, Some, None, Option, sym, ap, ◌∙◌, subst, zero-add}
use Rattle.mig.specs.declared.refusal.Refusal.{Refusal}
use Rattle.mig.specs.Networks.{Net, net_of}
use Rattle.mig.specs.Tables.{bit_at, table_from}
use Rattle.mig.specs.Questions.{row_bit}
use Rattle.mig.specs.Rules.{form_refusal, unless_refused}
use Rattle.mig_laws.proofs.Refusals.{answer_of_form}
use Rattle.mig_laws.proofs.Tables.{bit_at_table}
use Rattle.value_kinds.specs.declared.kinds.Column.{Column}
use Rattle.outputs.proofs.ByKind.{column_output}
use Rattle.outputs.proofs.column.Goals as goal

abbrev column : ℕ → Column
column x = record { rows = x }

agrees : (o : Option Refusal) (n : ℕ) (net : Net) → IfOk (unless_refused o (column (table_from 16 0 (row_bit n net)))) (λ c. (t : ℕ) → t < 16 → bit_at c.rows t ≡ row_bit n net t)
agrees (Some e) n net = tt
agrees None n net = λ t h. bit_at_table 16 0 (row_bit n net) t h ∙ ap (row_bit n net) (zero-add t)

pub returns : goal.returns
returns c =
    let n = c.args.inputs in
    let network = c.args.network.now in
    let a : c.output.result ≡ unless_refused (form_refusal n network) (column (table_from 16 0 (row_bit n (net_of network)))) =
    answer_of_form n network c.output.result _ (column (table_from 16 0 (row_bit n (net_of network)))) c.output.ensures (λ h _. column_output n (net_of network) h) in
    record {
      answer = a;
      agrees_with_row_bits = subst (λ r. IfOk r (λ v. (t : ℕ) → t < 16 → bit_at v.rows t ≡ row_bit n (net_of network) t)) (sym a) (agrees (form_refusal n network) n (net_of network));
    }
