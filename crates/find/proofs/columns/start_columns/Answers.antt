use Rattle.std.proofs.Common.{map}
use Rattle.std.proofs.lemmas.List.{get_or-map}
use Rattle.enumeration_laws.specs.Columns.{column}
use Rattle.enumeration_laws.proofs.Columns.{first_rows, first_columns}
use Rattle.find.proofs.columns.start_columns.Goals as goal

pub returns : goal.returns
returns c = λ n few. first_columns n (map column first_rows) few (λ i below. get_or-map column first_rows i 0 (column 0) below)
