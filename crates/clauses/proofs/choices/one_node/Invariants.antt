use Rattle.std.proofs.Common.{suc, ◌-◌, [], ◌∷◌}
use Rattle.cnf.specs.Variables.{neg, each}
use Rattle.cnf.specs.Numbers.{numbered}
use Rattle.clauses.specs.Numbering.{numbered_by}
use Rattle.clauses.specs.Choices.{variable_of}
use Rattle.clauses.proofs.choices.one_node.Given as goal

-- the pairs by their first nodes so far
abbrev pub invariant-loop-node : goal.invariant-loop-node
invariant-loop-node g l =
    g.S.ClauseSink.took l.initial.sink (numbered (numbered_by l.numbering) (each 0 (l.node) (λ x. each (suc x) (l.count - suc x) (λ y. (neg (variable_of l.choice x) ∷ neg (variable_of l.choice y) ∷ []) ∷ [])))) l.sink
