use Rattle.std.proofs.Common.{arith}
use Rattle.clauses.specs.Numbering.{numbered_by}
use Rattle.symmetry_laws.specs.Symmetry.{no_fall}
use Rattle.clauses.proofs.Takings.{took_none, took_part}
use Rattle.exact_clauses.proofs.fan_ins.no_falls.Goals as goal

pub loop-next-init : goal.loop-next-init
loop-next-init g c = took_none g.S.ClauseSink.took (numbered_by c.args.numbering.now) g.met.S.ClauseSink.took_nothing _ _ _ _ (omega arith)

pub loop-next-preserved : goal.loop-next-preserved
loop-next-preserved g c =
    took_part g.S.ClauseSink.took (numbered_by c.args.numbering.now) g.met.S.ClauseSink.took_more _ _ _ _ (no_fall c.args.gate c.args.node) _ _ _ (omega arith) (omega arith) c.loop-next.invariant c.no_fall.ensures
