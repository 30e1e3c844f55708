-- The clauses of two fan-ins of a gate that agree.
use Rattle.std.specs.Prelude.{ℕ, true, false, List, [], ◌∷◌}
use Rattle.cnf.specs.Numbers.{Clause}

-- if the variables with the numbers a and b agree, the variable v does as they
abbrev pub pair_clauses : ℕ → ℕ → ℕ → List Clause
pair_clauses a b v =
    (record { variable = a; negated = true } ∷ record { variable = b; negated = true } ∷ record { variable = v; negated = false } ∷ [])
    ∷ (record { variable = a; negated = false } ∷ record { variable = b; negated = false } ∷ record { variable = v; negated = true } ∷ []) ∷ []
