use Rattle.std.proofs.Common.{suc, ◌+◌, ◌-◌, [], ◌∷◌}
use Rattle.cnf.specs.Variables.{S, H, pos, neg, each}
use Rattle.cnf.specs.Numbers.{numbered}
use Rattle.clauses.specs.Numbering.{numbered_by}
use Rattle.clauses.proofs.levels.above_fan_ins.Given as goal

-- the fan-ins so far
abbrev pub invariant-loop-fan_in : goal.invariant-loop-fan_in
invariant-loop-fan_in g l =
    g.S.ClauseSink.took l.initial.sink (numbered (numbered_by l.numbering) (each 1 (l.fan_in - 1) (λ x. each (suc l.numbering.inputs) (l.gate - suc l.numbering.inputs) (λ j. each 0 l.numbering.depth (λ e. (neg (S l.gate x j) ∷ neg (H j e) ∷ pos (H l.gate (e + 1)) ∷ []) ∷ []))))) l.sink
