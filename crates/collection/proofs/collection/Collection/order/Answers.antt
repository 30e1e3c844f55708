use Rattle.std.proofs.Common.{rules, ◌≤◌, refl}
use Rattle.filing.specs.Filing.{key_of}
use Rattle.entry.specs.Held.{held}
use Rattle.collection_laws.specs.Calls.{network_given, AnswersOrder}
use Rattle.collection_laws.proofs.Orders.{order_given, order_none}
use Rattle.collection_laws.proofs.Law.{answer_right}
use Rattle.collection.specs.State.{order_answer, GivenOut}
use Rattle.collection.proofs.Given.{answers_order, sound_entry}
use Rattle.collection.proofs.collection.Collection.order.Goals as goal
use Rattle.collection.proofs.collection.Collection.order.Given.{Over}
use Rattle.collection.proofs.collection.Collection.order.Goals.{After-is_some}

-- what the order answers, by the network that it gives
answers : (g : Over) (c : After-is_some g) → AnswersOrder c.args.question.now (network_given c.args.gates (held c.in_ok-change.change.before) (held c.in_ok-change.change.after))
    c.in_ok-change.change.after.lower c.in_ok-change.change.asked
    (order_answer (record { given = c.is_some.result; lower = c.in_ok-change.change.after.lower; asked = c.in_ok-change.change.asked }) c.give_out.new.place)
answers g c =
    let q = c.args.question.now in
    let change = c.in_ok-change.change in
    let out : GivenOut q c.network_given-network.result c.args.place.now c.give_out.new.place = search rules in
    rw (c.is_some.ensures, ← c.network_given-network.ensures) (answers_order q change.after.lower change.asked c.args.place.now c.give_out.new.place c.network_given-network.result out)

pub returns-clause-ordered_by_the_rule : goal.returns-clause-ordered_by_the_rule
returns-clause-ordered_by_the_rule g c buffer =
    let q = c.args.question.now in
    let change = c.in_ok-change.change in
    let (before, settles, count, entries) = c.in_ok-change.ensures.settled_by_the_rule in
    record {
      held = held change.after;
      asked = change.asked;
      settles = rw (← before) settles;
      leaves = rw (count, entries) refl;
      answers = rw (← before) (answers g (goal.at.returns-clause-ordered_by_the_rule g c).After-is_some);
    }

pub returns-clause-minimum_or_none_exactly : goal.returns-clause-minimum_or_none_exactly
returns-clause-minimum_or_none_exactly g c =
    let q = c.args.question.now in
    let gates = c.args.gates in
    let change = c.in_ok-change.change in
    let h = held change.before in
    let h' = held change.after in
    let k = key_of q in
    let few : q.inputs ≤ 4 = search rules in
    let (before, settles, count, entries) = c.in_ok-change.ensures.settled_by_the_rule in
    let keys = c.in_ok-change.ensures.of_the_key in
    let sound = sound_entry change.before k keys.0 in
    answer_right q gates h h' change.asked _ (network_given gates h h') few sound (sound_entry change.after k keys.1)
    (order_none k gates h h' change.asked sound settles) (λ network e. order_given k gates h h' change.asked network sound settles e)
    (answers g (goal.at.returns-clause-minimum_or_none_exactly g c).After-is_some)
