use Rattle.records.specs.Parts.{rest}
use Rattle.known_cells.proofs.Records.{first_given}
use Rattle.known_cells.proofs.deposit_of_majority.Goals as goal

pub returns : goal.returns
returns c = first_given (rest c.next.new.self) c.next.result (rw c.new.ensures.all_parts at c.next.ensures.steps)
