use Rattle.std.proofs.Common.{rules}
use Rattle.enumeration_laws.proofs.Prefixes.{found_within}
use Rattle.find.proofs.finding.find_within.Goals as goal

pub returns : goal.returns
returns c =
    let q = c.args.asked.question in
    let found = c.or_else.result in
    found_within q c.args.gates c.find_without_gates.result found c.find_without_gates.ensures (search rules)
