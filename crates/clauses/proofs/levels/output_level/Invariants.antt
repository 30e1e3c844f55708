use Rattle.std.proofs.Common.{suc, ◌-◌, [], ◌∷◌}
use Rattle.cnf.specs.Variables.{H, O, neg, each}
use Rattle.cnf.specs.Numbers.{numbered}
use Rattle.clauses.specs.Numbering.{numbered_by}
use Rattle.clauses.proofs.levels.output_level.Given as goal

-- the gates so far
abbrev pub invariant-loop-gate : goal.invariant-loop-gate
invariant-loop-gate g l =
    g.S.ClauseSink.took l.initial.sink (numbered (numbered_by l.numbering) (each (suc l.numbering.inputs) (l.gate - suc l.numbering.inputs) (λ j. (neg (O j) ∷ neg (H j l.numbering.depth) ∷ []) ∷ []))) l.sink
