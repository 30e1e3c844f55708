use Rattle.std.proofs.Common.{◌-◌, cond, leb}
use Rattle.cnf.specs.Variables.{each, each_row}
use Rattle.cnf.specs.Clauses.{given, fan_in_given, fan_in_gate}
use Rattle.cnf.specs.Numbers.{numbered}
use Rattle.clauses.specs.Numbering.{numbered_by}
use Rattle.clauses.proofs.values.fan_ins_of_gate.Given as goal

-- the fan-ins so far
abbrev pub invariant-loop-fan_in : goal.invariant-loop-fan_in
invariant-loop-fan_in g l =
    g.S.ClauseSink.took l.initial.sink (numbered (numbered_by l.numbering) (each 1 (l.fan_in - 1) (λ x. each 0 l.gate (λ j. each_row l.numbering.inputs (λ t. cond (leb j l.numbering.inputs) (fan_in_given (given l.numbering.inputs t j) l.gate x j t) (fan_in_gate l.gate x j t)))))) l.sink
