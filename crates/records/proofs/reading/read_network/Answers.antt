use Rattle.std.proofs.Common.{◌≡◌, rules, ap, ◌∙◌, Some, None, Option}
use Rattle.mig.specs.declared.network.Network.{Network}
use Rattle.records.specs.Reading.{network_spelled}
use Rattle.records.proofs.Spelled.{spelled_again, bytes_again}
use Rattle.records.proofs.reading.read_network.Goals as goal

pub returns-then-codes-from-clause-reads_the_bytes_of_a_network : goal.returns-then-codes-from-clause-reads_the_bytes_of_a_network
returns-then-codes-from-clause-reads_the_bytes_of_a_network c =
    let answer : ◌≡◌ {A = Option Network} None (network_spelled c.args.bytes.now) = search rules in
    λ net few is. answer ∙ ap network_spelled is ∙ spelled_again net few

pub returns-clause-reads_the_bytes_of_a_network : goal.returns-clause-reads_the_bytes_of_a_network
returns-clause-reads_the_bytes_of_a_network c = λ net few is.
    let answer : Some _ ≡ network_spelled c.args.bytes.now = search rules in
    answer ∙ ap network_spelled is ∙ spelled_again net few

pub returns-clause-read_from_its_bytes : goal.returns-clause-read_from_its_bytes
returns-clause-read_from_its_bytes c = bytes_again c.args.bytes.now _ (search rules)
