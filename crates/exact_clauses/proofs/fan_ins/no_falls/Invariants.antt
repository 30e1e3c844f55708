use Rattle.cnf.specs.Variables.{each}
use Rattle.cnf.specs.Numbers.{numbered}
use Rattle.clauses.specs.Numbering.{numbered_by}
use Rattle.symmetry_laws.specs.Symmetry.{no_fall}
use Rattle.exact_clauses.proofs.fan_ins.no_falls.Given as goal

-- the later nodes so far
abbrev pub invariant-loop-next : goal.invariant-loop-next
invariant-loop-next g l =
    g.S.ClauseSink.took l.initial.sink (numbered (numbered_by l.numbering) (each 0 (l.next) (no_fall l.gate l.node))) l.sink
