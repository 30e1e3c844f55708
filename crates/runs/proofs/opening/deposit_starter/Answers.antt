use Rattle.std.proofs.Common.{subst}
use Rattle.mig.specs.declared.question.Question.{Question}
use Rattle.entries.specs.Rows.{table}
use Rattle.collection_laws.specs.Calls.{deposits_refusal}
use Rattle.collection_laws.specs.Opening.{DepositsUnless}
use Rattle.runs.proofs.Whole.{one_deposited}
use Rattle.runs.proofs.opening.deposit_starter.Goals as goal

pub returns-clause-deposited_by_the_rule : goal.returns-clause-deposited_by_the_rule
returns-clause-deposited_by_the_rule g c =
    let network = c.args.starter.1 in
    let before = table c.args.collection.now.entries in
    let after = table c.deposit.new.self.entries in
    let q = c.starter_question.result in
    subst (λ (q : Question). DepositsUnless (deposits_refusal q network before) q network before after) c.starter_question.ensures
    (one_deposited (λ x. table x.entries) c.args.collection.now c.deposit.new.self c.deposit.result (deposits_refusal q network before) q network c.deposit.ensures.refused_by_the_rule
    c.deposit.ensures.deposited_by_the_rule)
