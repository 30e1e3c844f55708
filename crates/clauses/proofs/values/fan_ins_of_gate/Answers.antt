use Rattle.std.proofs.Common.{cond, leb, arith}
use Rattle.cnf.specs.Variables.{each, each_row}
use Rattle.cnf.specs.Clauses.{given, fan_in_given, fan_in_gate}
use Rattle.clauses.specs.Numbering.{numbered_by}
use Rattle.clauses.proofs.Takings.{took_none, took_part}
use Rattle.clauses.proofs.values.fan_ins_of_gate.Goals as goal

pub loop-fan_in-init : goal.loop-fan_in-init
loop-fan_in-init g c = took_none g.S.ClauseSink.took (numbered_by c.args.numbering.now) g.met.S.ClauseSink.took_nothing _ _ _ _ (omega arith)

pub loop-fan_in-preserved : goal.loop-fan_in-preserved
loop-fan_in-preserved g c =
    took_part g.S.ClauseSink.took (numbered_by c.args.numbering.now) g.met.S.ClauseSink.took_more _ _ _ _ (λ x. each 0 c.args.gate (λ j. each_row c.args.numbering.now.inputs (λ t. cond (leb j c.args.numbering.now.inputs) (fan_in_given (given c.args.numbering.now.inputs t j) c.args.gate x j t) (fan_in_gate c.args.gate x j t)))) _ _ _ (omega arith) (omega arith) c.loop-fan_in.invariant c.fan_in_nodes.ensures
