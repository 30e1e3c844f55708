use Rattle.std.proofs.Common.{suc, ◌-◌, cond, []}
use Rattle.cnf.specs.Variables.{each}
use Rattle.cnf.specs.Numbers.{numbered}
use Rattle.clauses.specs.Numbering.{numbered_by}
use Rattle.symmetry_laws.specs.Inputs.{symmetric_in}
use Rattle.symmetry_laws.specs.Symmetry.{in_order}
use Rattle.exact_clauses.proofs.inputs.inputs_ordered.Given as goal

-- the earlier inputs so far
abbrev pub invariant-loop-first : goal.invariant-loop-first
invariant-loop-first g l =
    g.S.ClauseSink.took l.initial.sink (numbered (numbered_by l.numbering) (each 0 l.first (λ a. each (suc a) (l.numbering.inputs - suc a) (λ b.
    cond (symmetric_in l.numbering.inputs l.table a b) (in_order l.numbering.inputs a b l.numbering.gates) [])))) l.sink
