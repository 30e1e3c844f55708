use Rattle.std.proofs.Common.{◌≡◌, ℕ, ◌+◌, ◌*◌, ◌/◌, ◌≤◌, ◌<◌, length, get_or}
use Rattle.sat_laws.specs.Formulas.{literal_at}
use Rattle.sat_learning.proofs.learnt_clause.gather.Given as goal

-- the marked variables so far are written
abbrev pub invariant-loop-v : goal.invariant-loop-v
invariant-loop-v l = record {
  below : l.start ≤ l.end;
  within : l.end ≤ 2 * length l.words;
  same : (j : ℕ) → j < l.start → literal_at l.words j ≡ literal_at l.initial.words j;
  each : (v : ℕ) → v < l.v → 0 < get_or l.marks v 0 → 0 < get_or l.values v 0
      → (j : ℕ) × (l.start ≤ j) × (j < l.end) × (literal_at l.words j + get_or l.values v 0 ≡ 2 * v + 2);
  small : (j : ℕ) → l.start ≤ j → j < l.end → literal_at l.words j / 2 < length l.values;
}
