use Rattle.std.proofs.Common.{◌≡◌, ◌+◌, ◌-◌, ◌*◌, ◌++◌, length, take, map}
use Rattle.cnf.specs.Variables.{each}
use Rattle.cnf.specs.Numbers.{numbered_literal}
use Rattle.clauses.specs.Numbering.{numbered_by}
use Rattle.symmetry_laws.specs.Symmetry.{naming}
use Rattle.exact_clauses.proofs.naming.write_naming.Given as goal

-- the literals of the gates so far, three a gate
abbrev pub invariant-loop-gate : goal.invariant-loop-gate
invariant-loop-gate l =
    (length l.literals ≡ length l.initial.literals)
    × (l.count ≡ l.start + 3 * (l.gate - l.from))
    × (take l.count l.literals ≡ take l.start l.initial.literals ++ map (numbered_literal (numbered_by l.numbering)) (each l.from (l.gate - l.from) (naming l.node)))
