use Rattle.std.proofs.Common.{rules, ◌≡◌, leb, MatchResult, false}
use Rattle.enumeration_laws.proofs.Limited.{high_decides, fan_out_decides}
use Rattle.find.proofs.limits.within_limits.Goals as goal

pub returns-else-is_ok_and : goal.returns-else-is_ok_and
returns-else-is_ok_and c =
    let low : MatchResult c.level.result (λ x. c.is_ok_and.result ≡ leb x c.args.limits.depth)
    (λ _. c.is_ok_and.result ≡ false) = search rules in
    rw c.if-is_ok_and.false (high_decides c.args.inputs c.args.limits c.args.network.now c.is_ok_and.result false
    c.level.result c.level.ensures low c.if-is_ok_and.false)

pub returns-then-is_ok_and : goal.returns-then-is_ok_and
returns-then-is_ok_and c =
    let most = c.is_ok_and-then-is_ok_and.result in
    let low : MatchResult c.level.result (λ x. c.is_ok_and.result ≡ leb x c.args.limits.depth)
    (λ _. c.is_ok_and.result ≡ false) = search rules in
    let few : MatchResult c.greatest_fan_out.result (λ x. most ≡ leb x c.args.limits.fan_out)
    (λ _. most ≡ false) = search rules in
    fan_out_decides c.args.inputs c.args.limits c.args.network.now c.is_ok_and.result most c.level.result
    c.greatest_fan_out.result c.level.ensures c.greatest_fan_out.ensures low c.if-is_ok_and.true few
