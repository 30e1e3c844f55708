use Rattle.std.proofs.Common.{suc}
use Rattle.cnf.specs.Variables.{each}
use Rattle.cnf.specs.Numbers.{numbered}
use Rattle.clauses.specs.Numbering.{numbered_by}
use Rattle.symmetry_laws.specs.Symmetry.{no_fall}
use Rattle.exact_clauses.proofs.fan_ins.rising.Given as goal

-- the nodes so far
abbrev pub invariant-loop-node : goal.invariant-loop-node
invariant-loop-node g l =
    g.S.ClauseSink.took l.initial.sink (numbered (numbered_by l.numbering) (each 0 (l.node) (λ j. each 0 (suc j) (no_fall l.gate j)))) l.sink
