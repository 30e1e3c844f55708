use Rattle.std.proofs.Common.{◌≡◌, ℕ, ◌+◌, List, ◌++◌, map, take, drop, set, refl, ap, ◌∙◌, ap₂}
use Rattle.mig.specs.declared.network.Gate.{Gate}
use Rattle.mig.specs.Normal.{map_gate, flip_naming}
use Rattle.mig_laws.proofs.Places.{same_network}
use Rattle.normalise.proofs.Places.{turned_places}
use Rattle.normalise.proofs.normal_form.turned.Goals as goal

pub returns : goal.returns
returns c =
    let network = c.args.network in
    let f = map_gate (flip_naming (c.args.inputs + 1 + c.args.place)) in
    let flipped : c.flip_uses.new.gates ++ drop c.from.result network.gates ≡ map f (take network.count network.gates) ++ drop network.count network.gates =
    ap (λ (gs : List Gate). gs ++ drop c.from.result network.gates) c.flip_uses.ensures
    ∙ ap (λ (k : ℕ). map f (take k network.gates) ++ drop k network.gates) c.from.ensures in
    same_network refl (ap₂ (λ (gs : List Gate) (g : Gate). set gs c.args.place g) flipped c.gate_flipped.ensures) c.flipped_naming.ensures
    ∙ turned_places c.args.inputs c.args.place network c.requires.place c.requires.cleared
