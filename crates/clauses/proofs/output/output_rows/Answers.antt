use Rattle.std.proofs.Common.{cond, leb, arith}
use Rattle.mig.specs.Tables.{bit_at}
use Rattle.cnf.specs.Clauses.{given, output_given, output_gate}
use Rattle.clauses.specs.Numbering.{numbered_by}
use Rattle.clauses.proofs.Takings.{took_none, took_part}
use Rattle.clauses.proofs.output.output_rows.Goals as goal

pub loop-row-init : goal.loop-row-init
loop-row-init g c = took_none g.S.ClauseSink.took (numbered_by c.args.numbering.now) g.met.S.ClauseSink.took_nothing _ _ _ _ (omega arith)

pub loop-row-preserved : goal.loop-row-preserved
loop-row-preserved g c =
    took_part g.S.ClauseSink.took (numbered_by c.args.numbering.now) g.met.S.ClauseSink.took_more _ _ _ _ (λ t. cond (leb c.args.node c.args.numbering.now.inputs) (output_given (given c.args.numbering.now.inputs t c.args.node) (bit_at c.args.table t) c.args.node) (output_gate (bit_at c.args.table t) c.args.node t)) _ _ _ (omega arith) (omega arith) c.loop-row.invariant c.output_row.ensures
