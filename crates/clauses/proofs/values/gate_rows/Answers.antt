use Rattle.std.proofs.Common.{arith}
use Rattle.cnf.specs.Clauses.{gate_majority}
use Rattle.clauses.specs.Numbering.{numbered_by}
use Rattle.clauses.proofs.Takings.{took_none, took_part}
use Rattle.clauses.proofs.values.gate_rows.Goals as goal

pub loop-row-init : goal.loop-row-init
loop-row-init g c = took_none g.S.ClauseSink.took (numbered_by c.args.numbering.now) g.met.S.ClauseSink.took_nothing _ _ _ _ (omega arith)

pub loop-row-preserved : goal.loop-row-preserved
loop-row-preserved g c =
    took_part g.S.ClauseSink.took (numbered_by c.args.numbering.now) g.met.S.ClauseSink.took_more _ _ _ _ (λ t. gate_majority c.args.gate t) _ _ _ (omega arith) (omega arith) c.loop-row.invariant c.gate_row.ensures
