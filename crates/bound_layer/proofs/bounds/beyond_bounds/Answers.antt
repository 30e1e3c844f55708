use Rattle.std.proofs.Common.{◌^◌, ◌≤◌, true, refl, arith}
use Rattle.std.proofs.Math.Nat.{pow-le-pow_right}
use Rattle.bound_layer.proofs.bounds.beyond_bounds.Goals as goal

pub pow-most_by_level-requires : goal.pow-most_by_level-requires
pow-most_by_level-requires c =
    let valid = c.in_ok-check_question.ensures.accepted_exactly_when_valid.0 (refl {a = true}) in
    let most : 3 ^ c.from-2.result ≤ 3 ^ 7 = pow-le-pow_right (omega arith) {j = 7} (omega (arith, valid.depth)) in
    omega arith
