use Rattle.std.proofs.Common.{suc, ◌-◌, cond, []}
use Rattle.cnf.specs.Variables.{each}
use Rattle.cnf.specs.Numbers.{numbered}
use Rattle.clauses.specs.Numbering.{numbered_by}
use Rattle.symmetry_laws.specs.Inputs.{symmetric_in}
use Rattle.symmetry_laws.specs.Symmetry.{in_order}
use Rattle.exact_clauses.proofs.inputs.later_in_order.Given as goal

-- the later inputs so far
abbrev pub invariant-loop-second : goal.invariant-loop-second
invariant-loop-second g l =
    g.S.ClauseSink.took l.initial.sink (numbered (numbered_by l.numbering) (each (suc l.first) (l.second - suc l.first) (λ b.
    cond (symmetric_in l.numbering.inputs l.table l.first b) (in_order l.numbering.inputs l.first b l.numbering.gates) []))) l.sink
