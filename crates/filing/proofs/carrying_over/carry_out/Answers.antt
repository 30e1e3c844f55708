use Rattle.std.proofs.Common.{rules, ◌≡◌, ◌≤◌, None, sym, refl, ◌∙◌, subst, arith}
use Rattle.mig.specs.Networks.{net_of, network_of}
use Rattle.mig.specs.Questions.{Meets}
use Rattle.mig.specs.Rules.{or_else, inputs_refusal, network_refusal, question_refusal}
use Rattle.mig_laws.proofs.Places.{net_of-network_of}
use Rattle.mig_laws.proofs.Refusals.{none_from_ok, some_from_err, inputs_not_refused, none_means_formed}
use Rattle.class_laws.specs.Lifting.{cut_net}
use Rattle.class_laws.specs.Ways.{Way, inverse, carry_net}
use Rattle.classes.specs.Reach.{way_of}
use Rattle.filing.specs.Filing.{LeadsToClass, given_by}
use Rattle.filing.proofs.Carried.{leads, given_meets}
use Rattle.filing.proofs.Placed.{Holding, not_refused, carried_place, cut_place, normalised_place}
use Rattle.filing.proofs.carrying_over.carry_out.Goals as goal
use Rattle.filing.proofs.carrying_over.carry_out.Goals.{In_ok-carried}

-- the network as it is lent
lent : (c : In_ok-carried) → Holding 4 (net_of c.args.network.now) c.args.network.now
lent c =
    let network = c.args.network.now in
    let o : network_refusal 4 network ≡ None = search rules in
    let f = none_means_formed 4 network o in
    record { held = refl; formed = f.1; few = f.0 }

-- the carried network stands in its places
carried : (c : In_ok-carried) → Holding 4 (carry_net (inverse (way_of c.in_ok-way.way)) (net_of c.args.network.now)) c.in_ok-carried.carried
carried c =
    let w : Way = way_of c.in_ok-way.way in
    let e : way_of c.inverse.result ≡ inverse w = c.inverse.ensures.answer in
    subst (λ (v : Way). Holding 4 (carry_net v (net_of c.args.network.now)) c.in_ok-carried.carried) e
    (carried_place (way_of c.inverse.result) (net_of c.args.network.now) c.args.network.now c.in_ok-carried.carried
    (c.inverse.result.listed, c.inverse.result.inputs) (lent c) (search rules))

pub returns-in_err-cut : goal.returns-in_err-cut
returns-in_err-cut c =
    let at = (goal.at.returns-in_err-cut c).In_ok-carried in
    let n = c.args.question.now.inputs in
    let few : n ≤ 4 = search rules in
    let place = c.in_ok-carried.carried in
    let o = some_from_err (or_else (inputs_refusal n) (network_refusal 4 place)) (network_of (cut_net 4 n (net_of place))) c.in_err-cut.field-0.0 (search rules) in
    let none : or_else (inputs_refusal n) (network_refusal 4 place) ≡ None = rw (inputs_not_refused n few) (not_refused 4 _ place (omega arith) (carried at)) in
    let s = sym none ∙ o in
    absurd cc

pub returns : goal.returns
returns c =
    let at = (goal.at.returns c).In_ok-carried in
    let q = c.args.question.now in
    let net = net_of c.args.network.now in
    let few : q.inputs ≤ 4 = search rules in
    let w : Way = way_of c.in_ok-way.way in
    let way : LeadsToClass q w = leads q w (c.in_ok-way.way.listed, c.in_ok-way.way.inputs) c.in_ok-way.ensures.leads_there in
    let there = cut_place q.inputs (carry_net (inverse w) net) c.in_ok-carried.carried c.in_ok-cut.cut few (carried at) (search rules) in
    let e = normalised_place q.inputs (cut_net 4 q.inputs (carry_net (inverse w) net)) c.in_ok-cut.cut c.normalise.result few there c.normalise.ensures.answer in
    let o = none_from_ok (question_refusal q) tt tt c.in_ok-check_question.ensures.answer in
    let o' = not_refused 4 net c.args.network.now (omega arith) (lent at) in
    let back = net_of-network_of (given_by w q net) in
    record {
      refused_by_the_rule = rw (e, o, o') refl;
      carried_by_a_way = rw e (w, way, refl);
      meets_the_question_if_it_meets_that_of_the_class = rw e (λ m. subst (Meets q) (sym back) (given_meets q w net few way m));
      is_normal = search rules;
      keeps_the_number_of_gates = search rules;
    }
