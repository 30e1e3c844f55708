use Rattle.std.proofs.Common.{suc, ◌-◌, cond, [], arith}
use Rattle.cnf.specs.Variables.{each}
use Rattle.clauses.specs.Numbering.{numbered_by}
use Rattle.clauses.proofs.Takings.{took_none, took_part}
use Rattle.symmetry_laws.specs.Inputs.{symmetric_in}
use Rattle.symmetry_laws.specs.Symmetry.{in_order}
use Rattle.exact_clauses.proofs.inputs.inputs_ordered.Goals as goal

pub loop-first-init : goal.loop-first-init
loop-first-init g c = took_none g.S.ClauseSink.took (numbered_by c.args.numbering.now) g.met.S.ClauseSink.took_nothing _ _ _ _ (omega arith)

pub loop-first-preserved : goal.loop-first-preserved
loop-first-preserved g c =
    let n = c.args.numbering.now.inputs in
    took_part g.S.ClauseSink.took (numbered_by c.args.numbering.now) g.met.S.ClauseSink.took_more _ _ _ _
    (λ a. each (suc a) (n - suc a) (λ b. cond (symmetric_in n c.args.table a b) (in_order n a b c.args.numbering.now.gates) []))
    _ _ _ (omega arith) (omega arith) c.loop-first.invariant c.later_in_order.ensures
