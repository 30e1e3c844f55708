-- Bytes written into a buffer behind a place.
use Rattle.std.specs.Prelude.{◌≡◌, ℕ, ◌+◌, ◌≤◌, List, ◌++◌, length, take, drop}

-- a buffer with bytes from a place on; all else stays
abbrev pub written_at : ℕ → List ℕ → List ℕ → List ℕ
written_at place bytes before = take place before ++ (bytes ++ drop (place + length bytes) before)

-- if there is room for the bytes behind the place, they are written there, and the place is then behind them
pub record Writes (bytes before : List ℕ) (place : ℕ) (after : List ℕ) (behind : ℕ) : Type 0 where
  pub written : place + length bytes ≤ length before → after ≡ written_at place bytes before
  pub moved : place + length bytes ≤ length before → behind ≡ place + length bytes
