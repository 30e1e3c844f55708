use Rattle.std.proofs.Common.{rules, ◌%◌, true, false, eqb, Err}
use Rattle.std.proofs.lemmas.Bool.{lt-ltb, le-ltb}
use Rattle.mig.specs.declared.refusal.Refusal.TheVariants.{WrongTable, LevelAboveLimit, FanOutAboveLimit}
use Rattle.examine.proofs.Answered.{accepted_when_met, pair_told, Learnt, learnt, wrong_table, too_deep, shallow}
use Rattle.examine.proofs.examine.Goals as goal
use Rattle.examine.proofs.examine.Goals.{In_ok-tables}

pub returns-in_err-computed-clause-accepted_exactly_when_met : goal.returns-in_err-computed-clause-accepted_exactly_when_met
returns-in_err-computed-clause-accepted_exactly_when_met c = accepted_when_met c.args.question.now c.args.network.now _ (search rules)

-- what is known once the table is compared
compared : (c : In_ok-tables) → Learnt c.args.question.now c.args.network.now (eqb (c.in_ok-computed.computed.rows % c.in_ok-tables.tables) c.args.question.now.table)
compared c =
    learnt c.args.question.now c.args.network.now c.in_ok-computed.computed c.in_ok-tables.tables c.in_ok-check_question.ensures.answer c.in_ok-computed.ensures.answer c.in_ok-tables.ensures

pub returns-then-computed-tables : goal.returns-then-computed-tables
returns-then-computed-tables c =
    let q = c.args.question.now in
    let network = c.args.network.now in
    let l = compared (goal.at.returns-then-computed-tables c).In_ok-tables in
    let a = wrong_table q network (c.in_ok-computed.computed.rows % c.in_ok-tables.tables) l c.if-computed-tables.true in
    record { answer = a; accepted_exactly_when_met = accepted_when_met q network (Err WrongTable) a; level_and_greatest_fan_out = tt }

pub returns-then-depth-question : goal.returns-then-depth-question
returns-then-depth-question c =
    let q = c.args.question.now in
    let network = c.args.network.now in
    let l = compared (goal.at.returns-then-depth-question c).In_ok-tables in
    let a = too_deep q network (c.in_ok-computed.computed.rows % c.in_ok-tables.tables) c.in_ok-depth.depth l c.if-computed-tables.false c.in_ok-depth.ensures c.if-depth-question.true in
    record { answer = a; accepted_exactly_when_met = accepted_when_met q network (Err LevelAboveLimit) a; level_and_greatest_fan_out = tt }

pub returns-then-fan_out-question : goal.returns-then-fan_out-question
returns-then-fan_out-question c =
    let q = c.args.question.now in
    let network = c.args.network.now in
    let l = compared (goal.at.returns-then-fan_out-question c).In_ok-tables in
    let a = shallow q network (c.in_ok-computed.computed.rows % c.in_ok-tables.tables) c.in_ok-depth.depth c.in_ok-fan_out.fan_out l c.if-computed-tables.false c.in_ok-depth.ensures c.if-depth-question.false c.in_ok-fan_out.ensures true (lt-ltb q.limits.fan_out c.in_ok-fan_out.fan_out c.if-fan_out-question.true) in
    record { answer = a; accepted_exactly_when_met = accepted_when_met q network (Err FanOutAboveLimit) a; level_and_greatest_fan_out = tt }

pub returns : goal.returns
returns c =
    let q = c.args.question.now in
    let network = c.args.network.now in
    let l = compared (goal.at.returns c).In_ok-tables in
    let a = shallow q network (c.in_ok-computed.computed.rows % c.in_ok-tables.tables) c.in_ok-depth.depth c.in_ok-fan_out.fan_out l c.if-computed-tables.false c.in_ok-depth.ensures c.if-depth-question.false c.in_ok-fan_out.ensures false (le-ltb q.limits.fan_out c.in_ok-fan_out.fan_out c.if-fan_out-question.false) in
    record { answer = a; accepted_exactly_when_met = accepted_when_met q network _ a; level_and_greatest_fan_out = pair_told q network _ a }
