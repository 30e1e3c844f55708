use Rattle.std.proofs.Common.{[], ◌∷◌, arith}
use Rattle.symmetry_laws.specs.Symmetry.{named_up_to}
use Rattle.clauses.specs.Numbering.{numbered_by}
use Rattle.clauses.proofs.Takings.{took_none, took_part}
use Rattle.exact_clauses.proofs.inputs.in_order.Goals as goal

pub loop-gate-init : goal.loop-gate-init
loop-gate-init g c = took_none g.S.ClauseSink.took (numbered_by c.args.numbering.now) g.met.S.ClauseSink.took_nothing _ _ _ _ (omega arith)

pub loop-gate-preserved : goal.loop-gate-preserved
loop-gate-preserved g c =
    let n = c.args.numbering.now.inputs in
    took_part g.S.ClauseSink.took (numbered_by c.args.numbering.now) g.met.S.ClauseSink.took_more _ _ _ _
    (λ i. named_up_to n c.args.first c.args.second i 1 ∷ named_up_to n c.args.first c.args.second i 2 ∷ named_up_to n c.args.first c.args.second i 3 ∷ [])
    _ _ _ (omega arith) (omega arith) c.loop-gate.invariant c.gate_in_order.ensures
