use Rattle.sat_laws.proofs.Minimization.{follow_none, apart_kept}
use Rattle.sat_learning.proofs.minimization.minimize.Goals as goal

pub returns : goal.returns
returns c = record {
  apart = λ F snd just. apart_kept F c.args.values.now c.args.marks.now c.mark_trail.new.marks c.settle_marks.new.marks
      (c.mark_trail.ensures.follow F snd (c.mark_undecided.ensures.follow F just (follow_none F _ _ c.start_marks.ensures.small)))
      (λ v h. c.mark_trail.ensures.marked v (c.mark_undecided.ensures.marked v (c.start_marks.ensures.marked v h)))
      c.settle_marks.ensures.kept;
}
