use Rattle.std.proofs.Common.{◌+◌, [], ◌∷◌}
use Rattle.cnf.specs.Variables.{S, H, pos, neg, each}
use Rattle.cnf.specs.Numbers.{numbered}
use Rattle.clauses.specs.Numbering.{numbered_by}
use Rattle.clauses.proofs.levels.above_gate.Given as goal

-- the levels so far
abbrev pub invariant-loop-level : goal.invariant-loop-level
invariant-loop-level g l =
    g.S.ClauseSink.took l.initial.sink (numbered (numbered_by l.numbering) (each 0 (l.level) (λ e. (neg (S l.gate l.fan_in l.node) ∷ neg (H l.node e) ∷ pos (H l.gate (e + 1)) ∷ []) ∷ []))) l.sink
