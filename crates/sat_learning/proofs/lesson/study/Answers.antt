use Rattle.std.proofs.Common.{refl}
use Rattle.sat_learning.proofs.lesson.study.Goals as goal

pub returns-then-more-clauses-clause-analyzed : goal.returns-then-more-clauses-clause-analyzed
returns-then-more-clauses-clause-analyzed c =
    let l = c.learn-more.ensures.learnt in
    record {
      shaped = l.shaped;
      kept = l.kept;
      more = l.more;
      sound = λ F snd just. l.sound F snd (c.minimize.ensures.apart F snd just (c.if-not-analyze.ensures.apart refl F snd));
    }

pub returns-clause-analyzed : goal.returns-clause-analyzed
returns-clause-analyzed c =
    let l = c.learn-more.ensures.learnt in
    record {
      shaped = l.shaped;
      kept = l.kept;
      more = l.more;
      sound = λ F snd just. l.sound F snd (c.minimize.ensures.apart F snd just (c.if-not-analyze.ensures.apart refl F snd));
    }
