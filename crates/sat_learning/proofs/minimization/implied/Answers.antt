use Rattle.std.proofs.Common.{◌≡◌, ℕ, ◌+◌, ◌-◌, get_or, sym, ◌∙◌, subst, arith}
use Rattle.sat_laws.specs.Formulas.{SomeHolds}
use Rattle.sat_laws.proofs.Minimization.{follows_covered}
use Rattle.sat_learning.proofs.minimization.implied.Goals as goal

pub returns : goal.returns
returns c = record {
  follows = λ yes F snd.
      let k : ℕ = c.noted-reason.result - 1 in
      let e : k + 1 ≡ c.noted-reason.result = omega arith in
      follows_covered F c.args.words.now c.args.values.now c.args.marks.now _ _ c.args.literal
      (λ m mm. subst (λ x. SomeHolds m c.args.words.now (get_or c.args.ends.now k 0) (get_or c.args.ends.now x 0)) e (snd m mm k (omega arith)))
      (sym c.value.ensures ∙ c.if-value-literal.false) (c.covered.ensures.covered yes);
}
