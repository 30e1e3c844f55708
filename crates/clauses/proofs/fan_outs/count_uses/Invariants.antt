use Rattle.std.proofs.Common.{◌-◌}
use Rattle.cnf.specs.Variables.{each}
use Rattle.cnf.specs.Clauses.{counter}
use Rattle.cnf.specs.Numbers.{numbered}
use Rattle.clauses.specs.Numbering.{numbered_by}
use Rattle.clauses.specs.Uses.{use_at}
use Rattle.clauses.proofs.fan_outs.count_uses.Given as goal

-- the uses so far
abbrev pub invariant-loop-place : goal.invariant-loop-place
invariant-loop-place g l =
    g.S.ClauseSink.took l.initial.sink (numbered (numbered_by l.numbering) (each 1 (l.place - 1) (λ k. counter l.numbering.fan_out l.gate (use_at l.numbering l.gate k) k))) l.sink
