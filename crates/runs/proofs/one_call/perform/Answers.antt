use Rattle.std.proofs.Common.{rules, ◌≡◌, Err}
use Rattle.runs.proofs.one_call.perform.Goals as goal

pub returns-in_err-order-in-Order-clause-performed_by_its_rule : goal.returns-in_err-order-in-Order-clause-performed_by_its_rule
returns-in_err-order-in-Order-clause-performed_by_its_rule g c =
    let refused : c.from_residual.result ≡ Err c.in_err-order-in-Order.field-0.0 = search rules in
    rw (c.in-Order.is, refused) (c.in_err-order-in-Order.ensures.ordered_by_the_rule c.args.buffer.now)
