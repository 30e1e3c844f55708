use Rattle.std.proofs.Common.{◌^◌, ◌<◌, ◌≤◌, arith, rules, tests, pow_mono, refl}
use Rattle.std.proofs.lemmas.Iterator.{YieldsList-from_range, serves_from_Range}
use Rattle.std.proofs.lemmas.Iterator.Search.{any_from_yields_List}
use Rattle.std.proofs.lemmas.Nat.{one_shl}
use Rattle.support_laws.specs.Support.{changes_at}
use Rattle.support.proofs.depends.Goals as goal

pub any-requires-clause-callable : goal.any-requires-clause-callable
any-requires-clause-callable c =
    let few : 2 ^ c.args.inputs ≤ 16 = pow_mono {j = 4} c.requires.0 in
    let rows = one_shl c.args.inputs 32 (omega arith) in
    serves_from_Range (λ x q k. search (rules, tests)) (λ x low high. let small : x < 16 = omega arith in search rules)

pub returns : goal.returns
returns c =
    let rows = one_shl c.args.inputs 32 (omega arith) in
    any_from_yields_List (changes_at c.args.table c.args.place) _ _ _ c.any.ensures.ran
    (YieldsList-from_range 0 _ (2 ^ c.args.inputs) refl (omega arith)) (λ x b q k. search (rules, tests))
