use Rattle.std.proofs.Common.{arith}
use Rattle.cnf.specs.Variables.{S}
use Rattle.cnf.specs.Clauses.{exactly_one}
use Rattle.clauses.specs.Numbering.{numbered_by}
use Rattle.clauses.proofs.Takings.{took_none, took_part}
use Rattle.clauses.proofs.choices.fan_ins_of_gate.Goals as goal

pub loop-fan_in-init : goal.loop-fan_in-init
loop-fan_in-init g c = took_none g.S.ClauseSink.took (numbered_by c.args.numbering.now) g.met.S.ClauseSink.took_nothing _ _ _ _ (omega arith)

pub loop-fan_in-preserved : goal.loop-fan_in-preserved
loop-fan_in-preserved g c =
    took_part g.S.ClauseSink.took (numbered_by c.args.numbering.now) g.met.S.ClauseSink.took_more _ _ _ _ (λ x. exactly_one c.args.gate (S c.args.gate x)) _ _ _ (omega arith) (omega arith) c.loop-fan_in.invariant c.one_node.ensures
