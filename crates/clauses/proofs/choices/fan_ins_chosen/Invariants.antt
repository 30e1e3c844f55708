use Rattle.std.proofs.Common.{suc, ◌-◌}
use Rattle.cnf.specs.Variables.{S, each, each_fan_in}
use Rattle.cnf.specs.Clauses.{exactly_one}
use Rattle.cnf.specs.Numbers.{numbered}
use Rattle.clauses.specs.Numbering.{numbered_by}
use Rattle.clauses.proofs.choices.fan_ins_chosen.Given as goal

-- the gates so far
abbrev pub invariant-loop-gate : goal.invariant-loop-gate
invariant-loop-gate g l =
    g.S.ClauseSink.took l.initial.sink (numbered (numbered_by l.numbering) (each (suc l.numbering.inputs) (l.gate - suc l.numbering.inputs) (λ i. each_fan_in (λ b. exactly_one i (S i b))))) l.sink
