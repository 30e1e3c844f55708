use Rattle.sat_laws.specs.Steps.{Reducing}
use Rattle.sat_clauses.proofs.reduction.compact.Given as goal

-- the clauses so far are kept or dropped
abbrev pub invariant-loop-c : goal.invariant-loop-c
invariant-loop-c l = Reducing l.initial.words l.initial.ends l.given l.clauses l.variables l.words l.ends l.kept l.c l.start
