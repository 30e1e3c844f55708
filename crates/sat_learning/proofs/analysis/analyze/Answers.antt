use Rattle.std.proofs.Common.{◌≡◌, ℕ, ◌+◌, ◌-◌, get_or, sym, refl, ◌∙◌, subst, arith}
use Rattle.sat_laws.specs.Formulas.{SomeHolds}
use Rattle.sat_laws.proofs.Clauses.{apart_first, apart_more}
use Rattle.sat_learning.proofs.analysis.analyze.Goals as goal

pub loop-i-init : goal.loop-i-init
loop-i-init c = record {
  on_trail = omega arith;
  apart = λ F snd. apart_first F c.args.words.now _ _ _ _ _ _ (λ m mm. snd m mm c.args.conflict c.requires.held)
      (λ j h g e. omega (arith, c.requires.well_formed.small j (omega (arith, c.requires.well_formed.rising (c.args.conflict + 1) c.args.clauses (omega (arith, c.requires.held)) (omega arith)))))
      (c.if-not-mark.ensures.marked refl);
}

pub loop-i-preserved : goal.loop-i-preserved
loop-i-preserved c = record {
  on_trail = omega arith;
  apart = λ F snd.
      let k : ℕ = c.noted-reason.result - 1 in
      let e : k + 1 ≡ c.noted-reason.result = omega arith in
      apart_more F c.args.words.now c.args.values.now c.loop-i.marks c.mark-in-loop-i.new.marks _ _ _
      (λ m mm. subst (λ x. SomeHolds m c.args.words.now (get_or c.args.ends.now k 0) (get_or c.args.ends.now x 0)) e (snd m mm k (omega arith)))
      (sym c.value.ensures ∙ c.if-value-l.false) (c.loop-i.invariant.apart F snd) (c.if-not-mark-2.ensures.marked refl);
}
