use Rattle.std.proofs.Common.{cond, leb}
use Rattle.cnf.specs.Variables.{each, each_row}
use Rattle.cnf.specs.Clauses.{given, fan_in_given, fan_in_gate}
use Rattle.cnf.specs.Numbers.{numbered}
use Rattle.clauses.specs.Numbering.{numbered_by}
use Rattle.clauses.proofs.values.fan_in_nodes.Given as goal

-- the nodes so far
abbrev pub invariant-loop-node : goal.invariant-loop-node
invariant-loop-node g l =
    g.S.ClauseSink.took l.initial.sink (numbered (numbered_by l.numbering) (each 0 (l.node) (λ j. each_row l.numbering.inputs (λ t. cond (leb j l.numbering.inputs) (fan_in_given (given l.numbering.inputs t j) l.gate l.fan_in j t) (fan_in_gate l.gate l.fan_in j t))))) l.sink
