use Rattle.std.proofs.Common.{◌≡◌, ℕ, List, ◌++◌, length, take, drop, replicate, sym, refl, ap, ◌∙◌, ap₂, arith}
use Rattle.std.proofs.lemmas.List.{length-take-le, drop-replicate}
use Rattle.mig.specs.declared.network.Gate.{Gate}
use Rattle.mig.specs.Networks.{empty_gate}
use Rattle.mig_laws.proofs.Places.{same_network, default_gate}
use Rattle.normalise.proofs.normal_form.cleared.Goals as goal

pub copy_from_slice-requires : goal.copy_from_slice-requires
copy_from_slice-requires c =
    length-take-le c.from.result (replicate 7 c.default-gates.result) (omega (arith, c.from.ensures))
    ∙ omega (arith, c.from.ensures, c.gates.ensures.counted_up_to_seven)

pub returns : goal.returns
returns c =
    let counted : length (take c.args.network.now.count c.args.network.now.gates) ≡ c.args.network.now.count =
    ap (λ (gs : List Gate). length gs) (sym c.gates.ensures.gates) ∙ omega (arith, c.gates.ensures.counted_up_to_seven, c.requires) in
    same_network (sym counted)
    (ap₂ (λ (gs hs : List Gate). gs ++ hs) (c.copy_from_slice.ensures.after ∙ c.gates.ensures.gates)
    (ap₂ (λ (n : ℕ) (g : Gate). drop n (replicate 7 g)) (c.from.ensures ∙ sym counted) (default_gate c.default-gates.result c.default-gates.ensures)
    ∙ drop-replicate (length (take c.args.network.now.count c.args.network.now.gates)) 7 empty_gate))
    refl
