-- The codes that a closure gives for nodes.
use Rattle.std.specs.Prelude.{◌≡◌, ℕ, ◌<◌}

-- each call at a node below twelve gives the code that σ gives
abbrev pub Replaces : (ℕ → ℕ → Type 0) → (ℕ → ℕ) → Type 0
Replaces post σ = (j code : ℕ) → j < 12 → post j code → code ≡ σ j
