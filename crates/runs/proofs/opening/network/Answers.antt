use Rattle.std.proofs.Common.{rules, length}
use Rattle.std.proofs.lemmas.List.{drop-replicate}
use Rattle.mig.specs.Networks.{empty_gate}
use Rattle.runs.proofs.opening.network.Goals as goal

pub returns : goal.returns
returns c = let t = drop-replicate (length c.args.gates.now) 7 empty_gate in search rules
