use Rattle.std.proofs.Common.{rules, arith, List, length, drop, ap}
use Rattle.records.specs.declared.reader.Part.{Part}
use Rattle.records.proofs.Steps.{none_left, goes_on, ends}
use Rattle.records.proofs.reader.ReaderIterator.next.Goals as goal
use Rattle.records.proofs.reader.ReaderIterator.next.Goals.{in-Ok, in-Err}

pub returns-then-is_empty-clause-steps : goal.returns-then-is_empty-clause-steps
returns-then-is_empty-clause-steps c =
    let e = none_left c.args.self.now.place (drop c.args.self.now.place c.args.self.now.bytes.now) (search rules) in
    (e, e)

pub returns-clause-steps : goal.returns-clause-steps
returns-clause-steps c =
    let bytes = c.args.self.now.bytes.now in
    let place = c.args.self.now.place in
    elim c.match-read_record.branch [
      | in-Ok w ↦ rw w.record-is (goes_on bytes place (length w.in-Ok.behind.now) w.in-Ok.record (omega arith) (search rules) (search rules) (search rules))
      | in-Err w ↦ rw w.record-is (ends bytes place w.in-Err.fault (search rules) (search rules))
    ]

pub returns-clause-goes : goal.returns-clause-goes
returns-clause-goes c =
    let fewer = ap (λ (ps : List Part). length ps) (returns-clause-steps c) in
    record { on = λ _. (tt, tt, omega arith); keeps = tt; rests = λ _. tt }
