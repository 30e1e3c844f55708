use Rattle.std.proofs.Common.{◌≡◌, ℕ, ◌+◌, ◌<◌, cond, eqb, length, get_or}
use Rattle.clause_search.proofs.model.bytes_of_values.Given as goal

-- the bytes of the variables so far
abbrev pub invariant-loop-v : goal.invariant-loop-v
invariant-loop-v l =
    (length l.bytes ≡ 1400)
    × ((j : ℕ) → j < l.v → get_or l.bytes j 0 ≡ cond (eqb (get_or l.words (l.place + j) 0) 2) 1 0)
