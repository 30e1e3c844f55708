-- What a choice among the nodes says by variables.
use Rattle.std.specs.Prelude.{ℕ}
use Rattle.cnf.specs.Variables.{Var, S, O}
use Rattle.clauses.specs.declared.choices.Choice.{Choice}
use Rattle.clauses.specs.declared.choices.Choice.TheVariants.{FanIn, Output}

-- the variable that says that the node is chosen
abbrev pub variable_of : Choice → ℕ → Var
variable_of (FanIn i c) j = S i c j
variable_of Output j = O j
