use Rattle.std.proofs.Common.{◌≡◌, ℕ, true, None, Ok, refl, ap, ◌∙◌, arith}
use Rattle.mig.specs.declared.network.Network.{Network}
use Rattle.mig.specs.Networks.{net_of, network_of, size}
use Rattle.mig.specs.Normal.{first_normalised, normalised}
use Rattle.mig.specs.Rules.{form_refusal}
use Rattle.mig_laws.proofs.Refusals.{none_from_ok}
use Rattle.normalise.proofs.Stages.{stage_size, stage_gate, stage_turned, stage_kept, result}
use Rattle.normalise.proofs.normal_form.normalise.Goals as goal
use Rattle.normalise.proofs.normal_form.normalise.Goals.{then-complements-ge2, else-complements-ge2}

pub loop-i-init : goal.loop-i-init
unfolding first_normalised
loop-i-init c = c.cleared-normal.ensures

pub turned-normal-requires-clause-few : goal.turned-normal-requires-clause-few
turned-normal-requires-clause-few c =
    let f = c.in_ok-check_network.ensures.accepted_exactly_when_formed.0 (refl {a = true}) in
    let net = net_of c.args.network.now in
    let s = stage_size c.args.inputs c.loop-i.i net f.2 (omega (arith, c.in_ok-check_network.ensures.count_is_size)) in
    let k : c.loop-i.normal.count ≡ size (first_normalised c.args.inputs c.loop-i.i net) = ap (λ (m : Network). m.count) c.loop-i.invariant in
    omega (arith, f.1, c.in_ok-check_network.ensures.count_is_size)

pub loop-i-preserved : goal.loop-i-preserved
loop-i-preserved c =
    let f = c.in_ok-check_network.ensures.accepted_exactly_when_formed.0 (refl {a = true}) in
    let n = c.args.inputs in
    let i = c.loop-i.i in
    let net = net_of c.args.network.now in
    let z = c.in_ok-check_network.ensures.count_is_size in
    let s = stage_size n i net f.2 (omega arith) in
    let g = c.complements.ensures ∙ stage_gate (first_normalised n i net) c.loop-i.normal i c.loop-i.invariant (omega (arith, c.loop-i-test.true)) in
    elim c.if-complements-ge2.branch [
      | then-complements-ge2 w ↦ w.normal-is ∙ stage_turned n i net c.loop-i.normal w.turned-normal.result c.loop-i.invariant w.turned-normal.ensures (omega (arith, g, w.if-complements-ge2.true))
      | else-complements-ge2 w ↦ w.normal-is ∙ stage_kept n i net c.loop-i.normal c.loop-i.invariant (omega (arith, g, w.if-complements-ge2.false))
    ]

pub returns : goal.returns
returns c =
    let f = c.in_ok-check_network.ensures.accepted_exactly_when_formed.0 (refl {a = true}) in
    let n = c.args.inputs in
    let network = c.args.network.now in
    let net = net_of network in
    let z = c.in_ok-check_network.ensures.count_is_size in
    let k : c.loop-i.i ≡ size net = omega arith in
    let e : c.loop-i.normal ≡ network_of (normalised n net) = c.loop-i.invariant ∙ ap (λ (i : ℕ). network_of (first_normalised n i net)) k in
    let o : form_refusal n network ≡ None = none_from_ok (form_refusal n network) tt tt c.in_ok-check_network.ensures.answer in
    let r = result n network c.loop-i.normal f.2 z e in
    record {
      answer = rw o (ap Ok e);
      is_normal = r.normal;
      keeps_nodes_levels_and_fan_outs = r.shape;
      places_behind_are_zero = (r.count, r.behind);
      normal_networks_stay = r.stays;
      meets_the_same_questions = r.meets;
    }
