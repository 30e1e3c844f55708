use Rattle.std.proofs.Common.{suc, [], ◌∷◌}
use Rattle.cnf.specs.Variables.{S, neg, each}
use Rattle.cnf.specs.Numbers.{numbered}
use Rattle.clauses.specs.Numbering.{numbered_by}
use Rattle.exact_clauses.proofs.gates.next_in_order.Given as goal

-- the nodes so far
abbrev pub invariant-loop-node : goal.invariant-loop-node
invariant-loop-node g l =
    g.S.ClauseSink.took l.initial.sink (numbered (numbered_by l.numbering) (each 0 (l.node) (λ j. each 0 j (λ k. (neg (S l.gate 3 j) ∷ neg (S (suc l.gate) 3 k) ∷ []) ∷ [])))) l.sink
