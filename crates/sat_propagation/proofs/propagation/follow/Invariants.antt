use Rattle.sat_laws.specs.Trails.{Conflicts}
use Rattle.sat_laws.specs.Steps.{Grown}
use Rattle.sat_propagation.proofs.propagation.follow.Given as goal

-- the trail has grown by what follows
abbrev pub invariant-loop : goal.invariant-loop
invariant-loop l = record {
  grown : Grown l.words l.ends l.clauses l.initial.values l.initial.trail l.initial.kinds l.top l.values l.trail l.kinds l.grown;
  conflict : Conflicts l.words l.ends l.clauses l.values l.conflict;
}
