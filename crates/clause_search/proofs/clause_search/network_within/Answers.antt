use Rattle.std.proofs.Common.{arith}
use Rattle.clause_search.proofs.None.{none_within}
use Rattle.clause_search.proofs.clause_search.network_within.Goals as goal

-- the loop ends behind no gates
pub returns-clause-found_exactly_when_a_network_exists :
    goal.returns-clause-found_exactly_when_a_network_exists
returns-clause-found_exactly_when_a_network_exists c = none_within c.args.question.now c.args.gates c.requires.can_be_asked.valid (λ k l. c.loop-fewer.invariant.1 k (omega (arith, l)) (omega (arith, l, c.loop-fewer-test.false, c.loop-fewer.auto)))
