use Rattle.std.proofs.Common.{cond, leb}
use Rattle.mig.specs.Tables.{bit_at}
use Rattle.cnf.specs.Variables.{each, each_row}
use Rattle.cnf.specs.Clauses.{given, output_given, output_gate}
use Rattle.cnf.specs.Numbers.{numbered}
use Rattle.clauses.specs.Numbering.{numbered_by}
use Rattle.clauses.proofs.output.output_values.Given as goal

-- the nodes so far
abbrev pub invariant-loop-node : goal.invariant-loop-node
invariant-loop-node g l =
    g.S.ClauseSink.took l.initial.sink (numbered (numbered_by l.numbering) (each 0 (l.node) (λ j. each_row l.numbering.inputs (λ t. cond (leb j l.numbering.inputs) (output_given (given l.numbering.inputs t j) (bit_at l.table t) j) (output_gate (bit_at l.table t) j t))))) l.sink
