use Rattle.std.proofs.Common.{rules, List, [], ◌≡◌, length, get_or, ◌∷◌, take, ap, ◌∙◌}
use Rattle.mig.specs.Networks.{net_of, output_value}
use Rattle.mig.specs.Rules.{unless_refused, form_refusal}
use Rattle.outputs.proofs.Room.{walk_refused_for_form, unless_same, few_inputs, four_taken}
use Rattle.outputs.proofs.output.Goals as goal

pub returns : goal.returns
returns g c =
    let n = c.args.inputs in
    let network = c.args.network.now in
    let kind = g.V.ValueKind.kind in
    let zero = c.constant-zero.result in
    let zeros = zero ∷ zero ∷ zero ∷ zero ∷ zero ∷ zero ∷ zero ∷ [] in
    let a = get_or c.args.given 0 c.index-given-0.result in
    let b = get_or c.args.given 1 c.index-given-1.result in
    let d = get_or c.args.given 2 c.index-given-2.result in
    let e = get_or c.args.given 3 c.index-given-3.result in
    let value = λ (vs : List g.row.V.Denot). output_value kind (kind.constant ∷ take n vs) (net_of network) in
    let four : length c.args.given ≡ 4 = search rules in
    c.walk.ensures.answer ∙ ap (λ o. unless_refused o (value (a ∷ b ∷ d ∷ e ∷ zeros))) (walk_refused_for_form n network)
    ∙ unless_same (form_refusal n network) (value (a ∷ b ∷ d ∷ e ∷ zeros)) (value c.args.given) (λ none.
    ap (λ vs. output_value kind (kind.constant ∷ vs) (net_of network))
    (four_taken n c.args.given c.index-given-0.result c.index-given-1.result c.index-given-2.result c.index-given-3.result zeros (few_inputs n network none) four))
