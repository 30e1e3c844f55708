use Rattle.cnf.specs.Variables.{each}
use Rattle.cnf.specs.Clauses.{gate_majority}
use Rattle.cnf.specs.Numbers.{numbered}
use Rattle.clauses.specs.Numbering.{numbered_by}
use Rattle.clauses.proofs.values.gate_rows.Given as goal

-- the rows so far
abbrev pub invariant-loop-row : goal.invariant-loop-row
invariant-loop-row g l =
    g.S.ClauseSink.took l.initial.sink (numbered (numbered_by l.numbering) (each 0 (l.row) (λ t. gate_majority l.gate t))) l.sink
