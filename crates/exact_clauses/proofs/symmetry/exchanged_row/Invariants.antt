use Rattle.std.proofs.Common.{◌≡◌, ◌-◌, ◌^◌, ◌<◌}
use Rattle.mig.specs.Tables.{bit_at, table_from}
use Rattle.symmetry_laws.specs.Inputs.{exchange}
use Rattle.exact_clauses.proofs.symmetry.exchanged_row.Given as goal

-- the bits from the input on
abbrev pub invariant-loop-input : goal.invariant-loop-input
invariant-loop-input l = record {
  bits : l.exchanged ≡ table_from (l.inputs - l.input) l.input (λ c. bit_at l.row (exchange l.first l.second c));
  fits : l.exchanged < 2 ^ (l.inputs - l.input);
}
