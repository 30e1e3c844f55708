-- What bytes say of the variables, by the numbers of a numbering.
use Rattle.std.specs.Prelude.{ℕ, List}
use Rattle.cnf.specs.Meaning.{Assignment}
use Rattle.cnf.specs.Numbers.{bit_of}
use Rattle.cnf.specs.Rules.{bits_of_bytes}
use Rattle.clauses.specs.declared.numbering.Numbering.{Numbering}
use Rattle.clauses.specs.Numbering.{numbered_by}

-- the assignment that bytes are, a byte for each variable from the number 1 on
abbrev pub told_by : Numbering → List ℕ → Assignment
told_by e bytes v = bit_of (bits_of_bytes bytes) (numbered_by e v)
