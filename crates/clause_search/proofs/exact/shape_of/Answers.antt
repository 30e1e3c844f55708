use Rattle.std.proofs.Common.{refl, ◌∙◌, zero-add, arith}
use Rattle.mig_laws.proofs.Refusals.{value_from_ok}
use Rattle.clause_bounds.proofs.Bounds.{few_clauses}
use Rattle.clause_search.proofs.exact.shape_of.Goals as goal

pub returns-clause-shape : goal.returns-clause-shape
returns-clause-shape c = record {
  variables = value_from_ok _ _ _ c.in_ok-variables.ensures;
  clauses = c.in_ok-generate_exact.ensures.takes_the_clauses_in_order (omega (arith, few_clauses c.args.question.now c.args.gates c.requires.valid c.requires.few)) ∙ zero-add _;
  learnt = refl;
}
