use Rattle.std.proofs.Common.{cond, leb, arith}
use Rattle.mig.specs.Tables.{bit_at}
use Rattle.cnf.specs.Variables.{each_row}
use Rattle.cnf.specs.Clauses.{given, output_given, output_gate}
use Rattle.clauses.specs.Numbering.{numbered_by}
use Rattle.clauses.proofs.Takings.{took_none, took_part}
use Rattle.clauses.proofs.output.output_values.Goals as goal

pub loop-node-init : goal.loop-node-init
loop-node-init g c = took_none g.S.ClauseSink.took (numbered_by c.args.numbering.now) g.met.S.ClauseSink.took_nothing _ _ _ _ (omega arith)

pub loop-node-preserved : goal.loop-node-preserved
loop-node-preserved g c =
    took_part g.S.ClauseSink.took (numbered_by c.args.numbering.now) g.met.S.ClauseSink.took_more _ _ _ _ (λ j. each_row c.args.numbering.now.inputs (λ t. cond (leb j c.args.numbering.now.inputs) (output_given (given c.args.numbering.now.inputs t j) (bit_at c.args.table t) j) (output_gate (bit_at c.args.table t) j t))) _ _ _ (omega arith) (omega arith) c.loop-node.invariant c.output_rows.ensures
