use Rattle.std.proofs.Common.{◌≡◌, ℕ, ◌≤◌, ◌<◌, length, get_or}
use Rattle.sat.proofs.next.pick.Given as goal

-- the best so far is open, and where there is none all so far have values
abbrev pub invariant-loop-v : goal.invariant-loop-v
invariant-loop-v l = record {
  within : l.best ≤ length l.values;
  open_one : l.best < length l.values → get_or l.values l.best 0 ≡ 0;
  given : l.best ≡ length l.values → (v : ℕ) → v < l.v → 0 < get_or l.values v 0;
}
