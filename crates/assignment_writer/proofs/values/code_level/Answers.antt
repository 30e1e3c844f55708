use Rattle.std.proofs.Common.{◌≡◌, None, sym, ap, ◌∙◌}
use Rattle.mig.specs.declared.network.Network.{Network}
use Rattle.mig.specs.Networks.{net_of}
use Rattle.mig.specs.Questions.{level}
use Rattle.mig.specs.Rules.{form_refusal}
use Rattle.mig_laws.proofs.Refusals.{value_from_ok}
use Rattle.assignment_writer.proofs.Nodes.{not_refused}
use Rattle.assignment_writer.proofs.values.code_level.Goals as goal

pub unwrap-requires : goal.unwrap-requires
unwrap-requires c =
    let none : form_refusal c.args.inputs c.with_output.result ≡ None =
    not_refused c.args.inputs c.args.code c.args.network.now c.with_output.result c.requires.formed c.requires.of_a_node c.with_output.ensures in
    rw (c.level.ensures, none)

pub returns : goal.returns
returns c =
    let n = c.args.inputs in
    value_from_ok (form_refusal n c.with_output.result) (level n (net_of c.with_output.result)) c.unwrap.result (sym c.unwrap.ensures ∙ c.level.ensures)
    ∙ ap (λ (x : Network). level n (net_of x)) c.with_output.ensures
