use Rattle.std.proofs.Common.{rules, ◌≢◌, get_or, sym, subst, arith, get_or-set_other}
use Rattle.std.proofs.lemmas.List.Edits.{map_over_more}
use Rattle.mig.specs.Networks.{node, empty_gate, GateBelow}
use Rattle.class_laws.specs.Renaming.{rename_gate}
use Rattle.carrying.proofs.renaming.rename_gates.Goals as goal

pub loop-gate-preserved : goal.loop-gate-preserved
loop-gate-preserved g c =
    let i = c.loop-gate.gate-index in
    let gates = c.loop-gate.gates in
    let gate = get_or gates i empty_gate in
    let below : GateBelow 12 gate = subst (GateBelow 12) (sym (c.loop-gate.invariant.rest i (omega arith))) (c.requires.below i empty_gate (omega arith)) in
    record {
      rest = λ k h. let other : k ≢ i = omega arith in rw get_or-set_other (c.loop-gate.invariant.rest k (omega arith));
      front =
          λ σ e.
          let first = c.renamed_code.ensures σ (λ there p. e (node gate.first) there below.0 p) in
          let second = c.renamed_code-in-loop-gate.ensures σ (λ there p. e (node gate.second) there below.1 p) in
          let third = c.renamed_code-in-loop-gate-2.ensures σ (λ there p. e (node gate.third) there below.2 p) in
          let step = map_over_more (rename_gate σ) c.args.gates.now gates i gate (omega arith) (c.loop-gate.invariant.front σ e) (search rules) in
          cc;
    }
