use Rattle.std.proofs.Common.{◌-◌, length}
use Rattle.sat_laws.specs.Trails.{Conflicts}
use Rattle.sat_laws.specs.Steps.{Grown}
use Rattle.sat_propagation.proofs.propagation.propagate.Given as goal

-- the trail has grown by what follows
abbrev pub invariant-loop-at : goal.invariant-loop-at
invariant-loop-at l = record {
  grown : Grown l.words l.ends l.clauses l.initial.values l.initial.trail l.initial.kinds l.top l.values l.trail l.kinds l.grown;
  conflict : Conflicts l.words l.ends l.clauses l.values l.conflict;
}

abbrev pub decreases-loop-at : goal.decreases-loop-at
decreases-loop-at l = length l.initial.values - l.at
