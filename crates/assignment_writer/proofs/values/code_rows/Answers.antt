use Rattle.std.proofs.Common.{◌≡◌, ◌^◌, ◌∷◌, [], None, sym, ap, ◌∙◌}
use Rattle.mig.specs.declared.network.Network.{Network}
use Rattle.mig.specs.Networks.{net_of}
use Rattle.mig.specs.Tables.{table_from}
use Rattle.mig.specs.Questions.{row_bit}
use Rattle.mig.specs.Rules.{form_refusal}
use Rattle.mig_laws.proofs.Refusals.{value_from_ok}
use Rattle.value_kinds.specs.declared.kinds.Column.{Column}
use Rattle.cnf.specs.Variables.{each_row}
use Rattle.assignment_writer.specs.Said.{first_bits}
use Rattle.assignment_writer.proofs.Nodes.{not_refused, rows_of_column}
use Rattle.assignment_writer.proofs.values.code_rows.Goals as goal

pub unwrap-requires : goal.unwrap-requires
unwrap-requires c =
    let none : form_refusal c.args.inputs c.with_output.result ≡ None =
    not_refused c.args.inputs c.args.code c.args.network.now c.with_output.result c.requires.formed c.requires.of_a_node c.with_output.ensures in
    rw (c.column.ensures.answer, none)

pub returns : goal.returns
returns c =
    let n = c.args.inputs in
    let column : Column = record { rows = table_from 16 0 (row_bit n (net_of c.with_output.result)) } in
    let value = value_from_ok (form_refusal n c.with_output.result) column c.unwrap.result (sym c.unwrap.ensures ∙ c.column.ensures.answer) in
    ap (λ (x : Column). first_bits (2 ^ n) x.rows) value
    ∙ rows_of_column n (row_bit n (net_of c.with_output.result)) c.requires.formed.inputs
    ∙ ap (λ (x : Network). each_row n (λ t. row_bit n (net_of x) t ∷ [])) c.with_output.ensures
