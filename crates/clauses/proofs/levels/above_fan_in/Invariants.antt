use Rattle.std.proofs.Common.{suc, ◌+◌, ◌-◌, [], ◌∷◌}
use Rattle.cnf.specs.Variables.{S, H, pos, neg, each}
use Rattle.cnf.specs.Numbers.{numbered}
use Rattle.clauses.specs.Numbering.{numbered_by}
use Rattle.clauses.proofs.levels.above_fan_in.Given as goal

-- the earlier gates so far
abbrev pub invariant-loop-node : goal.invariant-loop-node
invariant-loop-node g l =
    g.S.ClauseSink.took l.initial.sink (numbered (numbered_by l.numbering) (each (suc l.numbering.inputs) (l.node - suc l.numbering.inputs) (λ j. each 0 l.numbering.depth (λ e. (neg (S l.gate l.fan_in j) ∷ neg (H j e) ∷ pos (H l.gate (e + 1)) ∷ []) ∷ [])))) l.sink
