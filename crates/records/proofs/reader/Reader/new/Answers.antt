use Rattle.records.proofs.Steps.{few_parts}
use Rattle.records.proofs.reader.Reader.new.Goals as goal

pub returns-clause-no_more_parts_than_bytes : goal.returns-clause-no_more_parts_than_bytes
returns-clause-no_more_parts_than_bytes c = few_parts 0 c.args.bytes.now
