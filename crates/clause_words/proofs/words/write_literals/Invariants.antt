use Rattle.std.proofs.Common.{◌≡◌, ℕ, ◌+◌, ◌<◌, All, length, map, get_or}
use Rattle.sat_laws.specs.Formulas.{literal_at}
use Rattle.clause_words.specs.Codes.{code_of, IsSmall}
use Rattle.clause_words.proofs.words.write_literals.Given as goal

-- the literals so far are written, and those before are as they were
abbrev pub invariant-loop-i : goal.invariant-loop-i
invariant-loop-i l =
    (length l.words ≡ length l.initial.words)
    × (All IsSmall l.clause → (j : ℕ) → j < l.i → literal_at l.words (l.start + j) ≡ get_or (map code_of l.clause) j 0)
    × ((j : ℕ) → j < l.start → literal_at l.words j ≡ literal_at l.initial.words j)
