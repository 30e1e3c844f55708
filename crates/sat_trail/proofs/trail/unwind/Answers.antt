use Rattle.std.proofs.Common.{◌≡◌, ◌+◌, ◌-◌, ◌/◌, get_or, sym, ap, ◌∙◌, subst, arith}
use Rattle.sat_laws.specs.Trails.{Consistent, Refuted}
use Rattle.sat_laws.proofs.Trails.{pop_consistent, back_past, zeroed}
use Rattle.sat_trail.proofs.trail.unwind.Goals as goal

pub loop-t-preserved : goal.loop-t-preserved
loop-t-preserved c =
    let e : c.loop-t.t ≡ c.loop-t.t - 1 + 1 = omega arith in
    record {
      below = omega arith;
      consistent = pop_consistent _ _ _ _ _ c.loop-t.invariant.consistent e;
      refuted = λ F r. back_past F _ _ _ (subst (Refuted F _ _) e (c.loop-t.invariant.refuted F r)) c.if-kinds-t-eq1.false;
    }

pub returns-then-kinds-t-eq1 : goal.returns-then-kinds-t-eq1
returns-then-kinds-t-eq1 c =
    let e : c.loop-t.t ≡ c.loop-t.t - 1 + 1 = omega arith in
    record {
      unwound = record {
        low = omega arith;
        place = λ p q. let d : p ≡ c.loop-t.t - 1 = omega arith in ap (λ x. get_or c.args.kinds.now x 0) d ∙ c.if-kinds-t-eq1.true;
        consistent = λ p q. let d : c.loop-t.t - 1 ≡ p = omega arith in subst (Consistent _ _ _) d (pop_consistent _ _ _ _ _ c.loop-t.invariant.consistent e);
        free = λ p q. let d : c.loop-t.t - 1 ≡ p = omega arith in rw (sym d) (zeroed c.loop-t.values (get_or c.args.trail.now (c.loop-t.t - 1) 0 / 2));
        none_left = λ F r z. absurd (omega arith);
        clash = λ F r p q. let d : c.loop-t.t ≡ p + 1 = omega arith in subst (Refuted F _ _) d (c.loop-t.invariant.refuted F r);
      };
    }

pub returns : goal.returns
returns c =
    let e : c.loop-t.t ≡ 0 = omega arith in
    record {
      unwound = record {
        low = omega arith;
        place = λ p q. absurd (omega arith);
        consistent = λ p q. absurd (omega arith);
        free = λ p q. absurd (omega arith);
        none_left = λ F r z. subst (Refuted F _ _) e (c.loop-t.invariant.refuted F r);
        clash = λ F r p q. absurd (omega arith);
      };
    }
