use Rattle.std.proofs.Common.{◌∙◌}
use Rattle.known_cells.proofs.Clauses.{smallest_written}
use Rattle.known_cells.proofs.smallest_clause_text.Goals as goal

pub returns : goal.returns
returns c = c.clause_text-bytes.ensures.bytes_are_the_text_and_those_behind_stay ∙ smallest_written c.asked.result c.asked.ensures
