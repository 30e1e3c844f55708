use Rattle.std.proofs.Common.{rules, ◌≡◌, ◌<◌, true, None, Ok, refl, ap, ◌∙◌, subst, arith, map}
use Rattle.std.specs.List.{All}
use Rattle.mig.specs.Networks.{net_of, node, GateBelow}
use Rattle.mig.specs.Rules.{form_refusal}
use Rattle.mig_laws.proofs.Refusals.{none_from_ok}
use Rattle.class_laws.specs.Renaming.{rename_gate}
use Rattle.carrying.proofs.Places.{gates_below_12, renamed_places}
use Rattle.carrying.proofs.renaming.renamed.Goals as goal

pub rename_gates-requires-clause-below : goal.rename_gates-requires-clause-below
rename_gates-requires-clause-below g c =
    let gs = (net_of c.args.network.now).gates in
    let f = c.in_ok-check_network.ensures.accepted_exactly_when_formed.0 (refl {a = true}) in
    let full = c.in_ok-check_network.ensures.count_is_size in
    let e : gs ≡ c.copy_from_slice.new.self = search rules in
    subst (All (GateBelow 12)) e (gates_below_12 _ gs f.2.gates (omega (arith, f.0, f.1, full)))

pub returns : goal.returns
returns g c = λ σ e.
    let network = c.args.network.now in
    let gs = (net_of network).gates in
    let answered = c.in_ok-check_network.ensures in
    let o : form_refusal c.args.inputs network ≡ None = none_from_ok (form_refusal c.args.inputs network) tt tt answered.answer in
    let f = answered.accepted_exactly_when_formed.0 (refl {a = true}) in
    let same : c.copy_from_slice.new.self ≡ gs = search rules in
    let below : node network.output < 12 = omega (arith, f.0, f.1, f.2.output) in
    rw (o, c.gates-own.ensures.gates) (ap Ok
    (renamed_places σ c.args.flipped network c.rename_gates.new.gates c.default-gates.result c.from.result c.complemented_by.result c.renamed_code-output.result
    answered.count_is_size
    (c.rename_gates.ensures σ e ∙ ap (map (rename_gate σ)) same)
    c.default-gates.ensures
    c.from.ensures
    (c.renamed_code-output.ensures σ (λ there p. e (node network.output) there below p))
    c.complemented_by.ensures))
