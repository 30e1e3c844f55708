use Rattle.std.proofs.Common.{rules, ◌≡◌, ◌<◌, length, arith}
use Rattle.entries.specs.Rows.{table}
use Rattle.collection_laws.specs.declared.call.Opening.TheVariants.{WithStarters}
use Rattle.collection_laws.specs.Opening.{starters}
use Rattle.runs.proofs.Starters.{starters_meet}
use Rattle.runs.proofs.Whole.{deposits_next, deposits_none}
use Rattle.runs.proofs.opening.open.Goals as goal

pub loop-starter-preserved : goal.loop-starter-preserved
loop-starter-preserved g c =
    let i = c.loop-starter.starter-index in
    let inv = c.loop-starter.invariant in
    let below : i < length starters = omega arith in
    let one = rw inv.all at c.deposit_starter.ensures.deposited_by_the_rule in
    record {
      search = search rules;
      all = search rules;
      deposited = λ t rest. inv.deposited t (deposits_next starters i _ (table c.loop-starter.collection.entries) (table c.deposit_starter.new.collection.entries) t below one rest);
    }

pub returns-after-loop-starter-clause-opened_by_the_rule : goal.returns-after-loop-starter-clause-opened_by_the_rule
returns-after-loop-starter-clause-opened_by_the_rule g c =
    let t = table c.loop-starter.collection.entries in
    let opening : c.args.opening ≡ WithStarters = search rules in
    rw opening (c.loop-starter.invariant.deposited t (deposits_none starters c.loop-starter.starter-index t (omega arith)))

pub returns-after-loop-starter-clause-starters_meet_their_questions : goal.returns-after-loop-starter-clause-starters_meet_their_questions
returns-after-loop-starter-clause-starters_meet_their_questions g c = starters_meet

pub returns-in_default-clause-starters_meet_their_questions : goal.returns-in_default-clause-starters_meet_their_questions
returns-in_default-clause-starters_meet_their_questions g c = starters_meet
