use Rattle.std.proofs.Common.{◌≡◌, suc, ◌-◌, ◌*◌, ◌+◌, ◌≤◌}
use Rattle.cnf.specs.Numbers.{total, counters}
use Rattle.clauses.proofs.numbering.Numbering.first_counter.Given as goal

-- the variables K of the gates before have been counted
abbrev pub invariant-loop-earlier : goal.invariant-loop-earlier
invariant-loop-earlier l =
    (l.first ≡ l.self.counters
    + total (suc l.self.inputs) (l.earlier - suc l.self.inputs) (counters l.self.inputs l.self.fan_out l.self.gates))
    × (l.first ≤ 2000000 + 646 * l.earlier)
