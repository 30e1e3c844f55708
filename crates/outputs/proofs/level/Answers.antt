use Rattle.std.proofs.Common.{◌≡◌, ℕ, Ok, ap, arith, length-take}
use Rattle.mig.specs.Questions.{level}
use Rattle.mig.specs.Networks.{net_of}
use Rattle.mig.specs.Rules.{form_refusal, unless_refused}
use Rattle.mig_laws.proofs.Refusals.{answer_of_form, none_from_ok, value_from_ok}
use Rattle.value_kinds.specs.declared.kinds.Level.{Level}
use Rattle.outputs.proofs.ByKind.{level_output}
use Rattle.outputs.proofs.level.Goals as goal

pub returns : goal.returns
returns c =
    let n = c.args.inputs in
    let network = c.args.network.now in
    let computed : Level = record { value = level n (net_of network) } in
    let w : Ok c.in_ok-output.field-0 ≡ unless_refused (form_refusal n network) computed =
    answer_of_form n network (Ok c.in_ok-output.field-0) _ computed c.in_ok-output.ensures
    (λ a b. ap (λ (x : ℕ). record { value = x }) (level_output n (net_of network) a (omega (arith, b, length-take network.count network.gates)))) in
    let o = none_from_ok (form_refusal n network) computed c.in_ok-output.field-0 w in
    rw o (ap Ok (ap (λ (x : Level). x.value) (value_from_ok (form_refusal n network) computed c.in_ok-output.field-0 w)))
