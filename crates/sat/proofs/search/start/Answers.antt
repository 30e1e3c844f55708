use Rattle.sat_laws.proofs.Growth.{grown_trans}
use Rattle.sat.proofs.search.start.Goals as goal

pub loop-clause-preserved : goal.loop-clause-preserved
loop-clause-preserved c = grown_trans c.loop-clause.auto.values c.loop-clause.invariant c.infer-grown.ensures.grown
