use Rattle.std.proofs.Common.{refl, arith}
use Rattle.sat_laws.proofs.Minimization.{follow_implied, follow_kept, still_marked}
use Rattle.sat_learning.proofs.minimization.mark_trail.Goals as goal

pub loop-i-preserved-then-implied : goal.loop-i-preserved-then-implied
loop-i-preserved-then-implied c =
    let inv = c.loop-i.invariant in
    record {
      follow = λ F snd first. follow_implied F c.args.values.now c.loop-i.marks _ (omega arith) (inv.follow F snd first) (c.if-implied.ensures.follows refl F snd);
      marked = λ v h. still_marked c.loop-i.marks _ 2 (omega arith) v (inv.marked v h) (omega arith);
    }

pub loop-i-preserved : goal.loop-i-preserved
loop-i-preserved c =
    let inv = c.loop-i.invariant in
    record {
      follow = λ F snd first. follow_kept F c.args.values.now c.loop-i.marks _ (omega arith) (inv.follow F snd first) (omega arith);
      marked = λ v h. still_marked c.loop-i.marks _ 3 (omega arith) v (inv.marked v h) (omega arith);
    }
