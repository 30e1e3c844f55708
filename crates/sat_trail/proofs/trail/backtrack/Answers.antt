use Rattle.std.proofs.Common.{◌≡◌, ℕ, ◌+◌, ◌-◌, ◌<◌, get_or, inr, ap, ◌∙◌, subst, arith}
use Rattle.sat_laws.specs.Trails.{Consistent, Justified, trail_weight}
use Rattle.sat_laws.proofs.Trails.{back_flip, complement_variable}
use Rattle.sat_trail.proofs.trail.backtrack.Goals as goal

pub returns-then-r-eq0 : goal.returns-then-r-eq0
returns-then-r-eq0 c = record {
  backtracked = record {
    consistent = λ p. absurd (omega arith);
    less = λ p. absurd (omega arith);
    none_left = λ F r z. c.unwind-r.ensures.unwound.none_left F r c.if-r-eq0.true;
    justified = λ F r u p. absurd (omega arith);
  };
}

pub returns : goal.returns
returns c =
    let u = c.unwind-r.ensures.unwound in
    let p : ℕ = c.unwind-r.result - 1 in
    let e : p + 1 ≡ c.unwind-r.result = omega arith in
    record {
      backtracked = record {
        consistent = λ z. subst (Consistent _ _ _) e (c.push.ensures.pushed.consistent (u.consistent p e) (ap (λ x. get_or c.unwind-r.new.values x 0) (complement_variable _ _ c.complement-other.ensures) ∙ u.free p e));
        less = λ z n h. subst (λ x. trail_weight c.push.new.kinds x n < trail_weight c.args.kinds.now c.args.top n) e
            (c.push.ensures.pushed.less c.args.top n (omega (arith, u.low)) (inr (omega (arith, u.low), u.place p e, omega arith)));
        none_left = λ F r z. absurd (omega arith);
        justified = λ F r j z. subst (Justified F _ _) e (c.push.ensures.pushed.justified F (λ i h. j i (omega (arith, u.low))) (inr (back_flip F _ _ p c.complement-other.result (u.clash F r p e) c.complement-other.ensures)));
      };
    }
