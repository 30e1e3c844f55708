use Rattle.std.proofs.Common.{rules, ◌≡◌, ◌≤◌}
use Rattle.filing.specs.Filing.{key_of}
use Rattle.entry.specs.Held.{held, gates_of}
use Rattle.collection_laws.specs.declared.answer.Answer.TheVariants.{Known}
use Rattle.collection_laws.proofs.Law.{look_up_right}
use Rattle.collection.specs.State.{with_place, GivenOut}
use Rattle.collection.proofs.Given.{upper_given, answers_look_up, sound_entry}
use Rattle.collection.proofs.collection.Collection.look_up.Goals as goal

pub returns-clause-upper_is_the_gates : goal.returns-clause-upper_is_the_gates
returns-clause-upper_is_the_gates g c =
    let q = c.args.question.now in
    let entry = c.in_ok-entry.entry in
    let few : q.inputs ≤ 4 = search rules in
    let key : entry.key ≡ key_of q = search rules in
    let out : GivenOut q entry.network c.args.place.now c.give_out.new.place = search rules in
    rw c.upper.ensures (upper_given q c.args.place.now c.give_out.new.place entry.network few (sound_entry entry (key_of q) key).keepable out)

pub returns-clause-lower_bound_and_network_are_right : goal.returns-clause-lower_bound_and_network_are_right
returns-clause-lower_bound_and_network_are_right g c =
    let q = c.args.question.now in
    let entry = c.in_ok-entry.entry in
    let place = c.give_out.new.place in
    let few : q.inputs ≤ 4 = search rules in
    let key : entry.key ≡ key_of q = search rules in
    let out : GivenOut q entry.network c.args.place.now place = search rules in
    let sound = sound_entry entry (key_of q) key in
    rw c.upper.ensures
    (look_up_right q (held entry) (Known entry.lower (with_place (gates_of entry.network) place)) entry.network few sound.lower_bound sound.keepable
    (answers_look_up q entry.lower c.args.place.now place entry.network out))
