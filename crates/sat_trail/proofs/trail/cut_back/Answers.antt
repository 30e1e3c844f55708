use Rattle.std.proofs.Common.{arith}
use Rattle.sat_laws.proofs.Trails.{pop_consistent}
use Rattle.sat_trail.proofs.trail.cut_back.Goals as goal

pub loop-t-preserved : goal.loop-t-preserved
loop-t-preserved c = record { above = omega arith; consistent = pop_consistent _ _ _ _ _ c.loop-t.invariant.consistent (omega arith) }
