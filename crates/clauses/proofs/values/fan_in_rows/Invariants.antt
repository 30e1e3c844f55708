use Rattle.std.proofs.Common.{cond, leb}
use Rattle.cnf.specs.Variables.{each}
use Rattle.cnf.specs.Clauses.{given, fan_in_given, fan_in_gate}
use Rattle.cnf.specs.Numbers.{numbered}
use Rattle.clauses.specs.Numbering.{numbered_by}
use Rattle.clauses.proofs.values.fan_in_rows.Given as goal

-- the rows so far
abbrev pub invariant-loop-row : goal.invariant-loop-row
invariant-loop-row g l =
    g.S.ClauseSink.took l.initial.sink (numbered (numbered_by l.numbering) (each 0 (l.row) (λ t. cond (leb l.node l.numbering.inputs) (fan_in_given (given l.numbering.inputs t l.node) l.gate l.fan_in l.node t) (fan_in_gate l.gate l.fan_in l.node t)))) l.sink
