use Rattle.sat_laws.proofs.Growth.{grown_trans}
use Rattle.sat_propagation.proofs.propagation.follow.Goals as goal

pub infer-requires-clause-consistent : goal.infer-requires-clause-consistent
infer-requires-clause-consistent c = c.loop.invariant.grown.consistent

pub loop-preserved : goal.loop-preserved
loop-preserved c = record {
  grown = grown_trans c.loop.auto.values c.loop.invariant.grown c.infer.ensures.grown;
  conflict = c.infer.ensures.conflict;
}
