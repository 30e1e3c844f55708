use Rattle.std.proofs.Common.{rules, ◌≡◌, sym, Ok, ◌≤◌, refl, ◌∙◌, arith}
use Rattle.mig.specs.Networks.{net_of, network_of, size, Formed}
use Rattle.mig.specs.Questions.{Meets}
use Rattle.mig.specs.Rules.{network_refusal}
use Rattle.mig_laws.proofs.Refusals.{some_from_err}
use Rattle.class_laws.specs.Lifting.{raise_net}
use Rattle.class_laws.specs.Ways.{Way, carry_net}
use Rattle.classes.specs.Reach.{way_of}
use Rattle.filing.specs.Filing.{LeadsToClass, kept_by, key_of}
use Rattle.filing.proofs.Carried.{leads, kept_keepable}
use Rattle.filing.proofs.Placed.{Holding, not_refused, raised_place, carried_place, normalised_place}
use Rattle.filing.proofs.carrying_over.carry_in.Goals as goal
use Rattle.filing.proofs.carrying_over.carry_in.Goals.{In_ok-way, In_ok-carried, In_ok-normalise}

-- the raised network stands in its places
raised : (c : In_ok-way) → Holding 4 (raise_net 4 c.args.question.now.inputs (net_of c.args.network.now)) c.in_ok-raised.raised
raised c =
    let few : c.args.question.now.inputs ≤ 4 = search rules in
    let formed : Formed c.args.question.now.inputs (net_of c.args.network.now) = search rules in
    raised_place c.args.question.now.inputs (net_of c.args.network.now) c.args.network.now c.in_ok-raised.raised few
    (record { held = refl; formed = formed; few = search rules }) c.in_ok-raised.ensures.answer

-- the way leads to the class
way_leads : (c : In_ok-way) → LeadsToClass c.args.question.now (way_of c.in_ok-way.way)
way_leads c = leads c.args.question.now (way_of c.in_ok-way.way) (c.in_ok-way.way.listed, c.in_ok-way.way.inputs) c.in_ok-way.ensures.leads_there

-- the carried network stands in its places
carried : (c : In_ok-carried) → Holding 4 (raise_net 4 c.args.question.now.inputs (net_of c.args.network.now)) c.in_ok-raised.raised
    → Holding 4 (carry_net (way_of c.in_ok-way.way) (raise_net 4 c.args.question.now.inputs (net_of c.args.network.now))) c.in_ok-carried.carried
carried c up =
    carried_place (way_of c.in_ok-way.way) (raise_net 4 c.args.question.now.inputs (net_of c.args.network.now)) c.in_ok-raised.raised c.in_ok-carried.carried
    (c.in_ok-way.way.listed, c.in_ok-way.way.inputs) up (search rules)

-- the network that is kept
kept : (c : In_ok-normalise) → Holding 4 (carry_net (way_of c.in_ok-way.way) (raise_net 4 c.args.question.now.inputs (net_of c.args.network.now))) c.in_ok-carried.carried
    → c.in_ok-normalise.field-0 ≡ network_of (kept_by (way_of c.in_ok-way.way) c.args.question.now (net_of c.args.network.now))
kept c there =
    let n = c.args.question.now.inputs in
    let e = normalised_place 4 (carry_net (way_of c.in_ok-way.way) (raise_net 4 n (net_of c.args.network.now))) c.in_ok-carried.carried
    (Ok c.in_ok-normalise.field-0) (omega arith) there c.in_ok-normalise.ensures.answer in
    cc

pub returns-in_err-carried-clause-refused_as_examined : goal.returns-in_err-carried-clause-refused_as_examined
returns-in_err-carried-clause-refused_as_examined c =
    let place = c.in_ok-raised.raised in
    let o = some_from_err (network_refusal 4 place) _ c.in_err-carried.field-0.0 c.in_err-carried.ensures.answer in
    let none = not_refused 4 (raise_net 4 c.args.question.now.inputs (net_of c.args.network.now)) place (omega arith)
    (raised (goal.at.returns-in_err-carried-clause-refused_as_examined c).In_ok-way) in
    let s = sym none ∙ o in
    absurd cc

pub returns-in_err-normalise-clause-refused_as_examined : goal.returns-in_err-normalise-clause-refused_as_examined
returns-in_err-normalise-clause-refused_as_examined c =
    let at = goal.at.returns-in_err-normalise-clause-refused_as_examined c in
    let n = c.args.question.now.inputs in
    let e = normalised_place 4 (carry_net (way_of c.in_ok-way.way) (raise_net 4 n (net_of c.args.network.now))) c.in_ok-carried.carried
    _ (omega arith) (carried at.In_ok-carried (raised at.In_ok-way)) c.in_err-normalise.ensures.answer in
    absurd cc

pub invariant_of-result : goal.invariant_of-result
invariant_of-result c =
    let at = goal.at.invariant_of-result c in
    let q = c.args.question.now in
    let net = net_of c.args.network.now in
    let few : q.inputs ≤ 4 = search rules in
    let met : Meets q net = search rules in
    let w : Way = way_of c.in_ok-way.way in
    let key : c.in_ok-of.field-0 ≡ key_of q = search rules in
    let small : size net ≤ 7 = search rules in
    record {
      keepable = rw key (kept_keepable q w net c.in_ok-normalise.field-0 few small (way_leads at.In_ok-way) met
          (kept at.In_ok-normalise (carried at.In_ok-carried (raised at.In_ok-way))));
    }

pub returns-clause-carried_by_a_way : goal.returns-clause-carried_by_a_way
returns-clause-carried_by_a_way c =
    let at = goal.at.returns-clause-carried_by_a_way c in
    (way_of c.in_ok-way.way, way_leads at.In_ok-way, kept at.In_ok-normalise (carried at.In_ok-carried (raised at.In_ok-way)))
