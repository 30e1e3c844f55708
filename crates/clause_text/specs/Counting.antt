-- Counts that stop at the greatest number of 64 bits.
use Rattle.std.specs.Prelude.{◌≡◌, ℕ, ◌+◌, ◌-◌, ◌^◌, ◌<◌, min}

-- a number, or the greatest
abbrev pub saturated : ℕ → ℕ
saturated n = min n (2 ^ 64 - 1)

-- a count goes on by a number, and stops at the greatest
abbrev pub CountsOn : ℕ → ℕ → ℕ → Type 0
CountsOn more before after = before < 2 ^ 64 → after ≡ saturated (before + more)
