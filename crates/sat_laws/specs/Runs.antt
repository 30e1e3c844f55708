-- What the search for a model keeps true.
use Rattle.std.specs.Prelude.{ℕ, ◌≤◌, eqb, List, length, get_or}
use Rattle.sat_laws.specs.Formulas.{Assignment, Formula, Implied, WellFormed, SameClauses}
use Rattle.sat_laws.specs.Trails.{Consistent, Justified}

-- the assignment that the values tell
abbrev pub assignment_of : List ℕ → Assignment
assignment_of values v = eqb (get_or values v 0) 2

-- the first k clauses
abbrev pub formula_of : List ℕ → List ℕ → ℕ → Formula
formula_of ws ends k = record { literals = ws; ends = ends; count = k }

-- of the first k₀ clauses of ws₀: they lead the clauses held, and imply them all, and the trail is justified
pub record Running (ws₀ ends₀ : List ℕ) (k₀ : ℕ) (ws ends : List ℕ) (k : ℕ) (values trail kinds : List ℕ) (top : ℕ) : Type 0 where
  pub shaped : WellFormed ws ends k (length values)
  pub kept : SameClauses ws₀ ends₀ k₀ ws ends
  pub more : k₀ ≤ k
  pub consistent : Consistent values trail kinds top
  pub sound : Implied (formula_of ws₀ ends₀ k₀) ws ends k
  pub justified : Justified (formula_of ws₀ ends₀ k₀) trail kinds top
