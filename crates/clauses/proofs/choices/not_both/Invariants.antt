use Rattle.std.proofs.Common.{suc, ◌-◌, [], ◌∷◌}
use Rattle.cnf.specs.Variables.{neg, each}
use Rattle.cnf.specs.Numbers.{numbered}
use Rattle.clauses.specs.Numbering.{numbered_by}
use Rattle.clauses.specs.Choices.{variable_of}
use Rattle.clauses.proofs.choices.not_both.Given as goal

-- the pairs with the later nodes so far
abbrev pub invariant-loop-later : goal.invariant-loop-later
invariant-loop-later g l =
    g.S.ClauseSink.took l.initial.sink (numbered (numbered_by l.numbering) (each (suc l.node) (l.later - suc l.node) (λ y. (neg (variable_of l.choice l.node) ∷ neg (variable_of l.choice y) ∷ []) ∷ []))) l.sink
