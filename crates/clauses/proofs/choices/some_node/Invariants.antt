use Rattle.std.proofs.Common.{◌≡◌, [], ◌∷◌, map, take, length}
use Rattle.cnf.specs.Variables.{pos, each}
use Rattle.cnf.specs.Numbers.{numbered_literal}
use Rattle.clauses.specs.Numbering.{numbered_by}
use Rattle.clauses.specs.Choices.{variable_of}
use Rattle.clauses.proofs.choices.some_node.Given as goal

-- the literals of the nodes so far
abbrev pub invariant-loop-node : goal.invariant-loop-node
invariant-loop-node g l =
    (length l.literals ≡ 12)
    × (take l.node l.literals ≡ map (numbered_literal (numbered_by l.numbering)) (each 0 l.node (λ j. pos (variable_of l.choice j) ∷ [])))
