use Rattle.std.proofs.Common.{below_more}
use Rattle.sat_laws.proofs.Clauses.{true_holds}
use Rattle.sat.proofs.next.check.Goals as goal

pub loop-clause-preserved : goal.loop-clause-preserved
loop-clause-preserved c =
    let x = c.in-Satisfied.ensures.looked in below_more _ _ c.loop-clause.invariant (x.0, x.1, x.2, true_holds c.args.values.now _ x.3)
