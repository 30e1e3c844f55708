use Rattle.std.proofs.Common.{Bool, true, false, cond, [], sym, ◌∙◌, subst, arith}
use Rattle.cnf.specs.Numbers.{numbered}
use Rattle.clauses.specs.Numbering.{numbered_by}
use Rattle.clauses.proofs.Takings.{took_none, took_part}
use Rattle.symmetry_laws.specs.Inputs.{symmetric_in}
use Rattle.symmetry_laws.specs.Symmetry.{in_order}
use Rattle.exact_clauses.proofs.inputs.later_in_order.Goals as goal
use Rattle.exact_clauses.proofs.inputs.later_in_order.Goals.{then-symmetric, else-symmetric}

pub loop-second-init : goal.loop-second-init
loop-second-init g c = took_none g.S.ClauseSink.took (numbered_by c.args.numbering.now) g.met.S.ClauseSink.took_nothing _ _ _ _ (omega arith)

pub loop-second-preserved : goal.loop-second-preserved
unfolding numbered
loop-second-preserved g c =
    let e = c.args.numbering.now in
    let num = numbered_by e in
    let a = c.args.first in
    let b = c.loop-second.second in
    let part = λ (s : Bool). numbered num (cond s (in_order e.inputs a b e.gates) []) in
    let taken : g.S.ClauseSink.took c.loop-second.sink (part (symmetric_in e.inputs c.args.table a b)) c.if-symmetric.sink =
    elim c.if-symmetric.branch [
      | then-symmetric w ↦
          let s = sym w.if-symmetric.true ∙ c.symmetric.ensures in
          subst (λ x. g.S.ClauseSink.took c.loop-second.sink (part x) c.if-symmetric.sink) s
          (subst (λ x. g.S.ClauseSink.took c.loop-second.sink (part true) x) (sym w.sink-is) w.in_order.ensures)
      | else-symmetric w ↦
          let s = sym w.if-symmetric.false ∙ c.symmetric.ensures in
          subst (λ x. g.S.ClauseSink.took c.loop-second.sink (part x) c.if-symmetric.sink) s
          (subst (λ x. g.S.ClauseSink.took c.loop-second.sink (part false) x) (sym w.sink-is) (g.met.S.ClauseSink.took_nothing c.loop-second.sink))
    ] in
    took_part g.S.ClauseSink.took num g.met.S.ClauseSink.took_more _ _ _ _
    (λ b. cond (symmetric_in e.inputs c.args.table a b) (in_order e.inputs a b e.gates) [])
    _ _ _ (omega arith) (omega arith) c.loop-second.invariant taken
