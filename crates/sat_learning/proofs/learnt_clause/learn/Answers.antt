use Rattle.std.proofs.Common.{refl, arith}
use Rattle.sat_laws.proofs.Clauses.{well_formed_same, hold_same, well_formed_more, kept_more, hold_more, gathered_holds}
use Rattle.sat_learning.proofs.learnt_clause.learn.Goals as goal

pub returns-then-end-gt4294967295 : goal.returns-then-end-gt4294967295
returns-then-end-gt4294967295 c =
    let sh = c.requires.well_formed in
    let same = c.gather.ensures.same in
    record {
      learnt = record {
        shaped = well_formed_same _ _ _ _ _ sh c.gather.auto.words same;
        kept = record { same_literals = same; same_ends = λ d h. refl };
        more = omega arith;
        sound = λ F snd apart m mm. hold_same _ _ _ _ _ sh c.gather.auto.words same m (snd m mm);
      };
    }

pub returns-in-None : goal.returns-in-None
returns-in-None c =
    let sh = c.requires.well_formed in
    let same = c.gather.ensures.same in
    record {
      learnt = record {
        shaped = well_formed_same _ _ _ _ _ sh c.gather.auto.words same;
        kept = record { same_literals = same; same_ends = λ d h. refl };
        more = omega arith;
        sound = λ F snd apart m mm. hold_same _ _ _ _ _ sh c.gather.auto.words same m (snd m mm);
      };
    }

pub returns-else-clauses-ends : goal.returns-else-clauses-ends
returns-else-clauses-ends c =
    let sh = c.requires.well_formed in
    let same = c.gather.ensures.same in
    let g = c.in-Some.ensures.gathered in
    record {
      learnt = record {
        shaped = well_formed_more _ _ _ _ _ sh c.gather.auto.words same _ c.if-clauses-ends.false g.below g.within g.small;
        kept = kept_more _ _ _ _ _ sh c.gather.auto.words same _ c.if-clauses-ends.false g.below g.within g.small;
        more = omega arith;
        sound = λ F snd apart m mm. hold_more _ _ _ _ _ sh c.gather.auto.words same _ c.if-clauses-ends.false g.below g.within g.small m (snd m mm)
            (gathered_holds F _ _ _ _ _ _ apart g m mm);
      };
    }
