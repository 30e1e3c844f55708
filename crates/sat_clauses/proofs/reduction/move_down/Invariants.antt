use Rattle.std.proofs.Common.{◌≡◌, ℕ, ◌+◌, ◌≤◌, ◌<◌}
use Rattle.sat_laws.specs.Formulas.{literal_at}
use Rattle.sat_clauses.proofs.reduction.move_down.Given as goal

-- the literals so far are moved, and the others as they were
abbrev pub invariant-loop-place : goal.invariant-loop-place
invariant-loop-place l = record {
  moved : (i : ℕ) → l.start + i < l.place → literal_at l.words (l.target + i) ≡ literal_at l.initial.words (l.start + i);
  low : (i : ℕ) → i < l.target → literal_at l.words i ≡ literal_at l.initial.words i;
  high : (i : ℕ) → l.place ≤ i → literal_at l.words i ≡ literal_at l.initial.words i;
}
