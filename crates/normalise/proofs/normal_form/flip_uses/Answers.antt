use Rattle.std.proofs.Common.{set, ap, ◌∙◌, arith}
use Rattle.std.proofs.lemmas.List.Edits.{map_over_more}
use Rattle.std.proofs.lemmas.List.{get_or_default}
use Rattle.mig.specs.declared.network.Gate.{Gate}
use Rattle.mig.specs.Networks.{empty_gate}
use Rattle.mig.specs.Normal.{map_gate, flip_naming}
use Rattle.normalise.proofs.normal_form.flip_uses.Goals as goal

pub loop-gate-preserved : goal.loop-gate-preserved
loop-gate-preserved c =
    let f = map_gate (flip_naming c.args.node) in
    let i = c.loop-gate.gate-index in
    ap (λ (g : Gate). set c.loop-gate.gates i g) c.gate_flipped_naming.ensures
    ∙ map_over_more f c.args.gates.now c.loop-gate.gates i _ (omega arith) c.loop-gate.invariant (get_or_default c.loop-gate.gates i empty_gate _ (omega arith))
