use Rattle.std.proofs.Common.{suc, ◌+◌, ◌-◌, [], ◌∷◌}
use Rattle.cnf.specs.Variables.{each}
use Rattle.cnf.specs.Numbers.{numbered}
use Rattle.clauses.specs.Numbering.{numbered_by}
use Rattle.symmetry_laws.specs.Symmetry.{naming}
use Rattle.exact_clauses.proofs.gates.gates_named.Given as goal

-- the gates so far
abbrev pub invariant-loop-gate : goal.invariant-loop-gate
invariant-loop-gate g l =
    g.S.ClauseSink.took l.initial.sink (numbered (numbered_by l.numbering) (each (suc l.numbering.inputs) (l.gate - suc l.numbering.inputs) (λ j. each (suc j) (l.numbering.inputs + l.numbering.gates - j) (naming j) ∷ []))) l.sink
