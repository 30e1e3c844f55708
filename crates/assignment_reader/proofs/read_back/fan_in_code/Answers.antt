use Rattle.std.proofs.Common.{ap, ◌∙◌}
use Rattle.cnf.specs.Variables.{S}
use Rattle.cnf.specs.Numbers.{bit_of}
use Rattle.cnf.specs.Rules.{bits_of_bytes}
use Rattle.clauses.specs.Numbering.{numbered_by}
use Rattle.assignment_reader.proofs.Told.{next_S, picked, same_code}
use Rattle.assignment_reader.proofs.read_back.fan_in_code.Goals as goal

pub returns : goal.returns
returns c =
    let e = c.args.numbering.now in
    let bits = bits_of_bytes c.args.bytes.now in
    same_code _ _ _ _ _
    (picked bits (numbered_by e) (S c.args.gate c.args.fan_in) c.args.gate c.fan_in_is.result c.last_that_holds-node.result
    (λ j. next_S e c.args.gate c.args.fan_in j c.fan_in_is.result c.fan_in_is.ensures) c.last_that_holds-node.ensures.choice)
    c.from.ensures (c.bit.ensures ∙ ap (bit_of bits) c.fan_in_complemented-complemented.ensures)
