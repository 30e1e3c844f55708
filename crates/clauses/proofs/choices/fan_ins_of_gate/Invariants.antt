use Rattle.std.proofs.Common.{◌-◌}
use Rattle.cnf.specs.Variables.{S, each}
use Rattle.cnf.specs.Clauses.{exactly_one}
use Rattle.cnf.specs.Numbers.{numbered}
use Rattle.clauses.specs.Numbering.{numbered_by}
use Rattle.clauses.proofs.choices.fan_ins_of_gate.Given as goal

-- the fan-ins so far
abbrev pub invariant-loop-fan_in : goal.invariant-loop-fan_in
invariant-loop-fan_in g l =
    g.S.ClauseSink.took l.initial.sink (numbered (numbered_by l.numbering) (each 1 (l.fan_in - 1) (λ x. exactly_one l.gate (S l.gate x)))) l.sink
