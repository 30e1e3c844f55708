use Rattle.sat_laws.proofs.Growth.{grown_trans}
use Rattle.sat_propagation.proofs.propagation.propagate.Goals as goal

pub loop-at-preserved : goal.loop-at-preserved
loop-at-preserved c = record {
  grown = grown_trans c.loop-at.auto.values c.loop-at.invariant.grown c.follow.ensures.grown;
  conflict = c.follow.ensures.conflict;
}
