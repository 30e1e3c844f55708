use Rattle.std.proofs.Common.{ℕ, ◌++◌, take, drop, sym, ap, ◌∙◌, add-zero, arith}
use Rattle.std.proofs.lemmas.List.{take-append-drop}
use Rattle.mig.specs.Networks.{walk}
use Rattle.mig_laws.proofs.Steps.{ordered_at, walk_writes}
use Rattle.walk.proofs.write_gates.Goals as goal

pub gate_value-requires : goal.gate_value-requires
gate_value-requires g c =
    let h = ordered_at c.args.before c.loop-i.i c.args.gates.now c.requires.ordered c.loop-i-test.true in
    (omega (arith, h.0), omega (arith, h.1), omega (arith, h.2))

pub loop-i-init : goal.loop-i-init
unfolding walk
loop-i-init g c =
    sym (ap (λ (j : ℕ). take c.args.before c.args.values.now ++ drop j c.args.values.now) (add-zero c.args.before)
    ∙ take-append-drop c.args.before c.args.values.now)

pub loop-i-preserved : goal.loop-i-preserved
loop-i-preserved g c =
    walk_writes g.V.ValueKind.kind c.args.before c.loop-i.i c.args.gates.now c.args.values.now c.loop-i.values c.gate_value.result
    c.requires.ordered c.loop-i-test.true c.requires.long c.loop-i.invariant c.gate_value.ensures
