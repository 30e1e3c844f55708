use Rattle.std.proofs.Common.{suc, [], ◌∷◌}
use Rattle.cnf.specs.Variables.{S, neg, each}
use Rattle.cnf.specs.Numbers.{numbered}
use Rattle.clauses.specs.Numbering.{numbered_by}
use Rattle.exact_clauses.proofs.gates.next_not_before.Given as goal

-- the earlier nodes so far
abbrev pub invariant-loop-earlier : goal.invariant-loop-earlier
invariant-loop-earlier g l =
    g.S.ClauseSink.took l.initial.sink (numbered (numbered_by l.numbering) (each 0 (l.earlier) (λ k. (neg (S l.gate 3 l.node) ∷ neg (S (suc l.gate) 3 k) ∷ []) ∷ []))) l.sink
