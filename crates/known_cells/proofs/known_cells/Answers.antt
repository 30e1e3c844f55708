use Rattle.std.proofs.Common.{refl}
use Rattle.mig.specs.Networks.{walk, uses_in, greatest}
use Rattle.mig.specs.Questions.{input_bits}
use Rattle.mig.specs.Normal.{first_normalised}
use Rattle.mig.specs.Rules.{is_ordered, all_below}
use Rattle.mig.specs.Tables.{table_from}
use Rattle.class_laws.specs.Ways.{old_row, least_of, representative_of}
use Rattle.known_cells.proofs.known_cells.Goals as goal

pub returns : goal.returns
returns c =
    rw (
      c.examine.ensures.answer,
      c.asked.ensures,
      c.network.ensures,
      c.gate.ensures,
      c.examine-2.ensures.answer,
      c.asked-2.ensures,
      c.network-2.ensures,
      c.gate-2.ensures,
      c.examine-3.ensures.answer,
      c.asked-3.ensures,
      c.examine-4.ensures.answer,
      c.asked-4.ensures,
      c.three_gates-three.ensures,
      c.normalise.ensures.answer,
      c.network-3.ensures,
      c.gate-3.ensures,
      c.representative.ensures.answer,
      c.representative-2.ensures.answer,
      c.representative-3.ensures.answer,
      c.representative-4.ensures.answer,
      c.deposit_of_majority.ensures,
      c.smallest_clause_text.ensures,
    ) (unfold walk uses_in greatest input_bits is_ordered all_below first_normalised representative_of least_of old_row table_from in refl)
