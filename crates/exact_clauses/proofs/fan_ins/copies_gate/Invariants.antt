use Rattle.std.proofs.Common.{[], ◌∷◌}
use Rattle.cnf.specs.Variables.{S, neg, each}
use Rattle.cnf.specs.Numbers.{numbered}
use Rattle.clauses.specs.Numbering.{numbered_by}
use Rattle.exact_clauses.proofs.fan_ins.copies_gate.Given as goal

-- the nodes so far
abbrev pub invariant-loop-node : goal.invariant-loop-node
invariant-loop-node g l =
    g.S.ClauseSink.took l.initial.sink (numbered (numbered_by l.numbering) (each 0 (l.node) (λ j. (neg (S l.gate 1 0) ∷ neg (S l.gate 2 0) ∷ neg (S l.gate 3 j) ∷ []) ∷ []))) l.sink
