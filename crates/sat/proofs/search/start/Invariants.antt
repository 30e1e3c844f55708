use Rattle.sat_laws.specs.Steps.{Grown}
use Rattle.sat.proofs.search.start.Given as goal

-- the trail has grown by what follows
abbrev pub invariant-loop-clause : goal.invariant-loop-clause
invariant-loop-clause l = Grown l.words l.ends l.clauses l.fn.values l.fn.trail l.fn.kinds 0 l.values l.trail l.kinds l.top
