use Rattle.std.proofs.Common.{suc, ◌-◌}
use Rattle.cnf.specs.Variables.{each, each_row}
use Rattle.cnf.specs.Clauses.{gate_majority}
use Rattle.cnf.specs.Numbers.{numbered}
use Rattle.clauses.specs.Numbering.{numbered_by}
use Rattle.clauses.proofs.values.gate_values.Given as goal

-- the gates so far
abbrev pub invariant-loop-gate : goal.invariant-loop-gate
invariant-loop-gate g l =
    g.S.ClauseSink.took l.initial.sink (numbered (numbered_by l.numbering) (each (suc l.numbering.inputs) (l.gate - suc l.numbering.inputs) (λ i. each_row l.numbering.inputs (λ t. gate_majority i t)))) l.sink
