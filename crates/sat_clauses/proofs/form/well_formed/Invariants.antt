use Rattle.std.proofs.Common.{ℕ, ◌+◌, ◌/◌, ◌≤◌, ◌<◌, get_or}
use Rattle.sat_laws.specs.Formulas.{literal_at}
use Rattle.sat_clauses.proofs.form.well_formed.Given as goal

-- the clauses so far are in order
abbrev pub invariant-loop-c : goal.invariant-loop-c
invariant-loop-c l = (c : ℕ) → c < l.c → get_or l.ends c 0 ≤ get_or l.ends (c + 1) 0

-- the literals so far have variables below the limit
abbrev pub invariant-loop-place : goal.invariant-loop-place
invariant-loop-place l = (j : ℕ) → j < l.place → literal_at l.words j / 2 < l.variables
