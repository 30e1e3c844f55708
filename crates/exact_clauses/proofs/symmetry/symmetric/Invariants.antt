use Rattle.std.proofs.Common.{◌≡◌, true}
use Rattle.std.specs.Bool.{beq}
use Rattle.mig.specs.Rules.{all_below}
use Rattle.mig.specs.Tables.{bit_at}
use Rattle.symmetry_laws.specs.Inputs.{exchanged_row}
use Rattle.exact_clauses.proofs.symmetry.symmetric.Given as goal

-- the rows so far have the same bits
abbrev pub invariant-loop-row : goal.invariant-loop-row
invariant-loop-row l = all_below l.row (λ t. beq (bit_at l.table (exchanged_row l.inputs l.first l.second t)) (bit_at l.table t)) ≡ true
