use Rattle.std.proofs.Common.{suc, ◌+◌, ◌-◌, [], ◌∷◌}
use Rattle.cnf.specs.Variables.{S, H, pos, neg, each, each_fan_in}
use Rattle.cnf.specs.Numbers.{numbered}
use Rattle.clauses.specs.Numbering.{numbered_by}
use Rattle.clauses.proofs.levels.levels_of_gates.Given as goal

-- the gates so far
abbrev pub invariant-loop-gate : goal.invariant-loop-gate
invariant-loop-gate g l =
    g.S.ClauseSink.took l.initial.sink (numbered (numbered_by l.numbering) (each (suc l.numbering.inputs) (l.gate - suc l.numbering.inputs) (λ i. (pos (H i 0) ∷ []) ∷ each_fan_in (λ b. each (suc l.numbering.inputs) (i - suc l.numbering.inputs) (λ j. each 0 l.numbering.depth (λ e. (neg (S i b j) ∷ neg (H j e) ∷ pos (H i (e + 1)) ∷ []) ∷ [])))))) l.sink
