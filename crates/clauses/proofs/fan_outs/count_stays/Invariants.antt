use Rattle.std.proofs.Common.{◌-◌, [], ◌∷◌}
use Rattle.cnf.specs.Variables.{K, pos, neg, each}
use Rattle.cnf.specs.Numbers.{numbered}
use Rattle.clauses.specs.Numbering.{numbered_by}
use Rattle.clauses.proofs.fan_outs.count_stays.Given as goal

-- the counts so far
abbrev pub invariant-loop-count : goal.invariant-loop-count
invariant-loop-count g l =
    g.S.ClauseSink.took l.initial.sink (numbered (numbered_by l.numbering) (each 1 (l.count - 1) (λ q. (neg (K l.taken.gate (l.taken.place - 1) q) ∷ pos (K l.taken.gate l.taken.place q) ∷ []) ∷ []))) l.sink
