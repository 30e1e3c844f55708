use Rattle.std.proofs.Common.{suc, arith}
use Rattle.cnf.specs.Variables.{each}
use Rattle.clauses.specs.Numbering.{numbered_by}
use Rattle.symmetry_laws.specs.Symmetry.{no_fall}
use Rattle.clauses.proofs.Takings.{took_none, took_part}
use Rattle.exact_clauses.proofs.fan_ins.rising.Goals as goal

pub loop-node-init : goal.loop-node-init
loop-node-init g c = took_none g.S.ClauseSink.took (numbered_by c.args.numbering.now) g.met.S.ClauseSink.took_nothing _ _ _ _ (omega arith)

pub loop-node-preserved : goal.loop-node-preserved
loop-node-preserved g c =
    took_part g.S.ClauseSink.took (numbered_by c.args.numbering.now) g.met.S.ClauseSink.took_more _ _ _ _ (λ j. each 0 (suc j) (no_fall c.args.gate j)) _ _ _ (omega arith) (omega arith) c.loop-node.invariant c.no_falls.ensures
