-- Clauses as the literals of the solver.
use Rattle.std.specs.Prelude.{ℕ, ◌+◌, ◌-◌, ◌*◌, ◌≤◌, cond, List, map}
use Rattle.std.specs.List.{flat_map}
use Rattle.cnf.specs.declared.literal.Literal.{Literal}
use Rattle.cnf.specs.Numbers.{Clause}

-- the solver's variables begin with 0, and its literals are 2 * v for the complement of the variable v, 2 * v + 1 for v itself
abbrev pub code_of : Literal → ℕ
code_of l = 2 * (l.variable - 1) + cond l.negated 0 1

-- the variable has a number that goes into half a word with its sign
abbrev pub IsSmall : Literal → Type 0
IsSmall l = (1 ≤ l.variable) × (l.variable ≤ 32768)

-- the literals of clauses, one clause behind the other
abbrev pub codes_of : List Clause → List ℕ
codes_of cs = flat_map (λ c. map code_of c) cs
