use Rattle.sat_laws.specs.Formulas.{ClausesHold}
use Rattle.sat_laws.specs.Runs.{assignment_of}
use Rattle.sat.proofs.next.check.Given as goal

-- the clauses so far are true
abbrev pub invariant-loop-clause : goal.invariant-loop-clause
invariant-loop-clause l = ClausesHold (assignment_of l.values) l.words l.ends l.clause
