use Rattle.std.proofs.Common.{suc, ◌-◌, cond, [], length}
use Rattle.cnf.specs.Variables.{each, uses_of, outnumber}
use Rattle.cnf.specs.Clauses.{counter}
use Rattle.cnf.specs.Numbers.{numbered}
use Rattle.clauses.specs.Numbering.{numbered_by}
use Rattle.clauses.specs.Uses.{use_at}
use Rattle.clauses.proofs.fan_outs.fan_outs_limited.Given as goal

-- the gates so far
abbrev pub invariant-loop-gate : goal.invariant-loop-gate
invariant-loop-gate g l =
    g.S.ClauseSink.took l.initial.sink (numbered (numbered_by l.numbering) (each (suc l.numbering.inputs) (l.gate - suc l.numbering.inputs) (λ j. cond (outnumber l.numbering.inputs l.numbering.fan_out l.numbering.gates j) (each 1 (length (uses_of l.numbering.inputs l.numbering.gates j)) (λ k. counter l.numbering.fan_out j (use_at l.numbering j k) k)) []))) l.sink
