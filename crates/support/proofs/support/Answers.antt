use Rattle.std.proofs.Common.{ap, arith, rules}
use lib.Count.{ones}
use Rattle.support_laws.proofs.Bounds.{support_by_gates, support_by_level}
use Rattle.support_laws.proofs.Dependence.{support_counts}
use Rattle.support.proofs.support.Goals as goal

pub returns-clause-counts_the_inputs_depended_on :
    goal.returns-clause-counts_the_inputs_depended_on
returns-clause-counts_the_inputs_depended_on c = search (rules, support_counts)

pub returns-clause-at_most_two_a_gate_and_one : goal.returns-clause-at_most_two_a_gate_and_one
returns-clause-at_most_two_a_gate_and_one c = λ r net formed computes few.
    omega (arith, ap ones c.support_mask.ensures, support_by_gates c.args.inputs c.args.table r net formed computes few)

pub returns-clause-at_most_three_to_the_level : goal.returns-clause-at_most_three_to_the_level
returns-clause-at_most_three_to_the_level c = λ d net formed computes low.
    omega (arith, ap ones c.support_mask.ensures, support_by_level c.args.inputs c.args.table d net formed computes low)
