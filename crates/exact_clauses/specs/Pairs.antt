-- The clause of the first two fan-ins of a gate.
use Rattle.std.specs.Prelude.{ℕ, cond, [], ◌∷◌, ◌==◌}
use Rattle.cnf.specs.Variables.{S, N, pos, neg, NamedClause}

-- not the node j before the node k as the first two fan-ins of gate i; but both may be the constant, if the second is complemented
abbrev pub first_two_rise : ℕ → ℕ → ℕ → NamedClause
first_two_rise i j k = neg (S i 1 j) ∷ neg (S i 2 k) ∷ cond (j == 0) (pos (N i 2) ∷ []) []
