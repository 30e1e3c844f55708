-- No network meets a question whose table has more inputs in its support than the bounds allow.
use Rattle.std.proofs.Common.{◌≡◌, ℕ, true, arith}
use Rattle.std.proofs.lemmas.Bool.Decides.{nat_tests}
use Rattle.mig.specs.declared.question.Question.{Question}
use Rattle.search.specs.Meaning.{NoneWithin}
use Rattle.support_laws.proofs.Bounds.{support_by_gates, support_by_level}
use Rattle.bound_layer.specs.Bounds.{beyond_bounds}

pub none_beyond : (q : Question) (r : ℕ) → beyond_bounds q r ≡ true → NoneWithin q r
none_beyond q r e net m few =
    let gates = support_by_gates q.inputs q.table r net m.formed m.computes few in
    let level = support_by_level q.inputs q.table q.limits.depth net m.formed m.computes m.within.level in
    grind (arith, nat_tests)
