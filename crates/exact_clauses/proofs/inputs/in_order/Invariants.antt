use Rattle.std.proofs.Common.{suc, ◌-◌, [], ◌∷◌}
use Rattle.cnf.specs.Variables.{each}
use Rattle.cnf.specs.Numbers.{numbered}
use Rattle.clauses.specs.Numbering.{numbered_by}
use Rattle.symmetry_laws.specs.Symmetry.{named_up_to}
use Rattle.exact_clauses.proofs.inputs.in_order.Given as goal

-- the gates so far
abbrev pub invariant-loop-gate : goal.invariant-loop-gate
invariant-loop-gate g l =
    g.S.ClauseSink.took l.initial.sink (numbered (numbered_by l.numbering) (each (suc l.numbering.inputs) (l.gate - suc l.numbering.inputs) (λ i.
    named_up_to l.numbering.inputs l.first l.second i 1 ∷ named_up_to l.numbering.inputs l.first l.second i 2 ∷ named_up_to l.numbering.inputs l.first l.second i 3 ∷ []))) l.sink
