use Rattle.std.proofs.Common.{sym, ◌∙◌, arith}
use Rattle.least_gates.specs.Asked.{FoundAt, NoneFound}
use Rattle.filing.specs.Filing.{key_question}
use Rattle.entry.specs.Held.{held, stop}
use Rattle.settling.specs.Settles.{Settles}
use Rattle.settling.proofs.Again.{again_asks_nothing}
use Rattle.settling.proofs.Asking.{asks_below_stop, found_settles, none_settles}
use Rattle.settling.proofs.Bounds.{entry_sound}
use Rattle.settling.proofs.settle.Given.{Over}
use Rattle.settling.proofs.settle.Goals as goal
use Rattle.settling.proofs.settle.Goals.{In_ok-entry-in-Ok, After-with_lower-entry}

pub with_found-requires-clause-none_before : goal.with_found-requires-clause-none_before
with_found-requires-clause-none_before g c =
    let f = rw (c.question-question.ensures, c.in-Ok.is) at c.in_ok-least.ensures.asked_up_to_the_first_found.1 in
    f.none_before

pub with_lower-entry-requires : goal.with_lower-entry-requires
with_lower-entry-requires g c =
    let f = rw (c.question-question.ensures, c.in-Err.is) at c.in_ok-least.ensures.asked_up_to_the_first_found.1 in
    λ r a b. f.none r a (omega (arith, f.known))

-- what is kept where a network is found
found : (g : Over) (c : In_ok-entry-in-Ok g) → Settles c.args.entry.key c.args.gates (held c.args.entry) (held c.in_ok-entry-in-Ok.entry) c.in_ok-least.field-0.times
found g c =
    let entry = c.args.entry in
    let gates = c.args.gates in
    let times = c.in_ok-least.field-0.times in
    let place = c.least_gates.new.place in
    let f : FoundAt (key_question entry.key) entry.lower (stop gates (held entry)) c.in-Ok.least times place =
    rw (c.question-question.ensures, c.stop-end.ensures, c.in-Ok.is) at c.in_ok-least.ensures.asked_up_to_the_first_found.1 in
    let reach = g.met.S.Search.reach_at_most_seven c.args.search.now in
    let few = c.in_ok-check.ensures.accepted in
    found_settles entry.key gates (held entry) (held c.in_ok-entry-in-Ok.entry) c.in-Ok.least times place c.if-gates-entry.false
    (sym c.is_settled.ensures ∙ c.if-is_settled.false) (omega (arith, few, reach)) f c.in_ok-entry-in-Ok.ensures.kept

-- what is kept where none is
none : (g : Over) (c : After-with_lower-entry g) → Settles c.args.entry.key c.args.gates (held c.args.entry) (held c.with_lower-entry.result) c.in_ok-least.field-0.times
none g c =
    let entry = c.args.entry in
    let gates = c.args.gates in
    let times = c.in_ok-least.field-0.times in
    let place = c.default-found.result in
    let place' = c.least_gates.new.place in
    let f : NoneFound (key_question entry.key) entry.lower (stop gates (held entry)) c.in-Err.lower times place place' =
    rw (c.question-question.ensures, c.stop-end.ensures, c.in-Err.is) at c.in_ok-least.ensures.asked_up_to_the_first_found.1 in
    none_settles entry.key gates (held entry) (held c.with_lower-entry.result) c.in-Err.lower times place place' (entry_sound entry) c.if-gates-entry.false
    (sym c.is_settled.ensures ∙ c.if-is_settled.false) f c.with_lower-entry.ensures.kept

pub returns-in_ok-entry-in-Ok-clause-settled_by_the_rule : goal.returns-in_ok-entry-in-Ok-clause-settled_by_the_rule
returns-in_ok-entry-in-Ok-clause-settled_by_the_rule g c = (c.in_ok-least.ensures.asked_up_to_the_first_found.0, found g c)

pub returns-in_ok-entry-in-Ok-clause-asks_nothing_again : goal.returns-in_ok-entry-in-Ok-clause-asks_nothing_again
returns-in_ok-entry-in-Ok-clause-asks_nothing_again g c =
    again_asks_nothing c.args.entry.key c.args.gates (held c.args.entry) (held c.in_ok-entry-in-Ok.entry) c.in_ok-least.field-0.times (entry_sound c.args.entry) (found g c)

pub returns-in-Err-clause-settled_by_the_rule : goal.returns-in-Err-clause-settled_by_the_rule
returns-in-Err-clause-settled_by_the_rule g c = (c.in_ok-least.ensures.asked_up_to_the_first_found.0, none g c)

pub returns-in-Err-clause-asks_nothing_again : goal.returns-in-Err-clause-asks_nothing_again
returns-in-Err-clause-asks_nothing_again g c =
    again_asks_nothing c.args.entry.key c.args.gates (held c.args.entry) (held c.with_lower-entry.result) c.in_ok-least.field-0.times (entry_sound c.args.entry) (none g c)

pub returns-in-Err-clause-nothing_asked_leaves_search_and_words : goal.returns-in-Err-clause-nothing_asked_leaves_search_and_words
returns-in-Err-clause-nothing_asked_leaves_search_and_words g c nothing =
    let entry = c.args.entry in
    let settled = sym c.is_settled.ensures ∙ c.if-is_settled.false in
    let some = asks_below_stop entry.key c.args.gates (held entry) (entry_sound entry) c.if-gates-entry.false settled in
    let f : NoneFound (key_question entry.key) entry.lower (stop c.args.gates (held entry)) c.in-Err.lower c.in_ok-least.field-0.times c.default-found.result c.least_gates.new.place =
    rw (c.question-question.ensures, c.stop-end.ensures, c.in-Err.is) at c.in_ok-least.ensures.asked_up_to_the_first_found.1 in
    absurd (omega (arith, some, f.all_counted, nothing))
