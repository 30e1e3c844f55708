use Rattle.std.proofs.Common.{false, ◌∷◌, ap}
use Rattle.mig.specs.Networks.{net_of, bits, output_value}
use Rattle.mig.specs.Questions.{row_bit}
use Rattle.mig_laws.proofs.Refusals.{answer_of_form}
use Rattle.outputs.proofs.ByKind.{row_inputs}
use Rattle.outputs.proofs.row_bit.Goals as goal

pub returns : goal.returns
returns c =
    let n = c.args.inputs in
    let network = c.args.network.now in
    let row = c.args.row in
    answer_of_form n network c.output.result _ (row_bit n (net_of network) row)
    (rw (← c.input_bit.ensures, ← c.input_bit-2.ensures, ← c.input_bit-3.ensures, ← c.input_bit-4.ensures) c.output.ensures)
    (λ h _. ap (λ vs. output_value bits (false ∷ vs) (net_of network)) (row_inputs n row h))
