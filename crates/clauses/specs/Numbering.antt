-- The numbers that a numbering gives.
use Rattle.std.specs.Prelude.{ℕ}
use Rattle.cnf.specs.Variables.{Var}
use Rattle.cnf.specs.Numbers.{number}
use Rattle.clauses.specs.declared.numbering.Numbering.{Numbering}

-- the number of a variable, for the question and the number of gates that a numbering is of
abbrev pub numbered_by : Numbering → Var → ℕ
numbered_by e = number e.inputs e.depth e.fan_out e.gates
