use Rattle.std.proofs.Common.{cond, leb, arith}
use Rattle.cnf.specs.Clauses.{given, fan_in_given, fan_in_gate}
use Rattle.clauses.specs.Numbering.{numbered_by}
use Rattle.clauses.proofs.Takings.{took_none, took_part}
use Rattle.clauses.proofs.values.fan_in_rows.Goals as goal

pub loop-row-init : goal.loop-row-init
loop-row-init g c = took_none g.S.ClauseSink.took (numbered_by c.args.numbering.now) g.met.S.ClauseSink.took_nothing _ _ _ _ (omega arith)

pub loop-row-preserved : goal.loop-row-preserved
loop-row-preserved g c =
    took_part g.S.ClauseSink.took (numbered_by c.args.numbering.now) g.met.S.ClauseSink.took_more _ _ _ _ (λ t. cond (leb c.args.node c.args.numbering.now.inputs) (fan_in_given (given c.args.numbering.now.inputs t c.args.node) c.args.gate c.args.fan_in c.args.node t) (fan_in_gate c.args.gate c.args.fan_in c.args.node t)) _ _ _ (omega arith) (omega arith) c.loop-row.invariant c.fan_in_row.ensures
