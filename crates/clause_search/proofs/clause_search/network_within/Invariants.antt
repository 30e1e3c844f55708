use Rattle.std.proofs.Common.{◌≡◌, ℕ, ◌+◌, ◌<◌, ◌≤◌, length}
use Rattle.clause_search.specs.Exact.{NoAssignment}
use Rattle.clause_search.proofs.clause_search.network_within.Given as goal

-- no assignment satisfies the clauses of any number of gates so far
abbrev pub invariant-loop-fewer : goal.invariant-loop-fewer
invariant-loop-fewer l =
    (length l.words ≡ length l.initial.words)
    × ((r : ℕ) → r ≤ l.gates → l.gates < r + l.fewer → NoAssignment l.question r)
