use Rattle.std.proofs.Common.{suc, arith}
use Rattle.cnf.specs.Variables.{each}
use Rattle.clauses.specs.Numbering.{numbered_by}
use Rattle.symmetry_laws.specs.Symmetry.{no_fall}
use Rattle.clauses.proofs.Takings.{took_none, took_part}
use Rattle.exact_clauses.proofs.fan_ins.fan_ins_rise.Goals as goal

pub loop-gate-init : goal.loop-gate-init
loop-gate-init g c = took_none g.S.ClauseSink.took (numbered_by c.args.numbering.now) g.met.S.ClauseSink.took_nothing _ _ _ _ (omega arith)

pub loop-gate-preserved : goal.loop-gate-preserved
loop-gate-preserved g c =
    took_part g.S.ClauseSink.took (numbered_by c.args.numbering.now) g.met.S.ClauseSink.took_more _ _ _ _ (λ i. each 0 i (λ j. each 0 (suc j) (no_fall i j))) _ _ _ (omega arith) (omega arith) c.loop-gate.invariant c.rising.ensures
