use Rattle.std.proofs.Common.{suc, ◌-◌, cond, leb}
use Rattle.cnf.specs.Variables.{each, each_fan_in, each_row}
use Rattle.cnf.specs.Clauses.{given, fan_in_given, fan_in_gate}
use Rattle.cnf.specs.Numbers.{numbered}
use Rattle.clauses.specs.Numbering.{numbered_by}
use Rattle.clauses.proofs.values.fan_in_values.Given as goal

-- the gates so far
abbrev pub invariant-loop-gate : goal.invariant-loop-gate
invariant-loop-gate g l =
    g.S.ClauseSink.took l.initial.sink (numbered (numbered_by l.numbering) (each (suc l.numbering.inputs) (l.gate - suc l.numbering.inputs) (λ i. each_fan_in (λ b. each 0 i (λ j. each_row l.numbering.inputs (λ t. cond (leb j l.numbering.inputs) (fan_in_given (given l.numbering.inputs t j) i b j t) (fan_in_gate i b j t))))))) l.sink
