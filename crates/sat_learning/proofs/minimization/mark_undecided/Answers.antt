use Rattle.std.proofs.Common.{◌≡◌, ℕ, ◌+◌, ◌<◌, get_or, sym, ◌∙◌, below_more, arith}
use Rattle.sat_laws.proofs.Minimization.{follows_undecided, follow_implied, still_marked}
use Rattle.sat_learning.proofs.minimization.mark_undecided.Goals as goal

pub loop-i-preserved : goal.loop-i-preserved
loop-i-preserved c =
    let inv = c.loop-i.invariant in
    let forced : (j : ℕ) → j < c.loop-i.i + 1 → get_or c.args.kinds.now j 0 ≡ 1 → ⊥ = below_more _ _ inv.forced c.if-kinds-i-eq1.false in
    record {
      forced = forced;
      follow = λ F just first. follow_implied F c.args.values.now c.loop-i.marks _ (omega arith) (inv.follow F just first)
          (follows_undecided F c.args.values.now c.args.trail.now c.args.kinds.now c.loop-i.marks c.args.top c.loop-i.i just (omega arith) forced
          (sym c.value.ensures ∙ c.if-value-l.false));
      marked = λ v h. still_marked c.loop-i.marks _ 2 (omega arith) v (inv.marked v h) (omega arith);
    }
