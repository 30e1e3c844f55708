-- How large clauses are.
use Rattle.std.specs.Prelude.{ℕ, List, length}
use Rattle.std.specs.List.{sum_by}
use Rattle.cnf.specs.Numbers.{Clause}

-- how many literals clauses have, each counted in each clause
abbrev pub literal_total : List Clause → ℕ
literal_total cs = sum_by (λ (c : Clause). length c) cs
