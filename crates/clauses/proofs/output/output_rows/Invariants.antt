use Rattle.std.proofs.Common.{cond, leb}
use Rattle.mig.specs.Tables.{bit_at}
use Rattle.cnf.specs.Variables.{each}
use Rattle.cnf.specs.Clauses.{given, output_given, output_gate}
use Rattle.cnf.specs.Numbers.{numbered}
use Rattle.clauses.specs.Numbering.{numbered_by}
use Rattle.clauses.proofs.output.output_rows.Given as goal

-- the rows so far
abbrev pub invariant-loop-row : goal.invariant-loop-row
invariant-loop-row g l =
    g.S.ClauseSink.took l.initial.sink (numbered (numbered_by l.numbering) (each 0 (l.row) (λ t. cond (leb l.node l.numbering.inputs) (output_given (given l.numbering.inputs t l.node) (bit_at l.table t) l.node) (output_gate (bit_at l.table t) l.node t)))) l.sink
