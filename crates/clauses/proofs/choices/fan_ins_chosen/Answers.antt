use Rattle.std.proofs.Common.{arith}
use Rattle.cnf.specs.Variables.{S, each_fan_in}
use Rattle.cnf.specs.Clauses.{exactly_one}
use Rattle.clauses.specs.Numbering.{numbered_by}
use Rattle.clauses.proofs.Takings.{took_none, took_part}
use Rattle.clauses.proofs.choices.fan_ins_chosen.Goals as goal

pub loop-gate-init : goal.loop-gate-init
loop-gate-init g c = took_none g.S.ClauseSink.took (numbered_by c.args.numbering.now) g.met.S.ClauseSink.took_nothing _ _ _ _ (omega arith)

pub loop-gate-preserved : goal.loop-gate-preserved
loop-gate-preserved g c =
    took_part g.S.ClauseSink.took (numbered_by c.args.numbering.now) g.met.S.ClauseSink.took_more _ _ _ _ (λ i. each_fan_in (λ b. exactly_one i (S i b))) _ _ _ (omega arith) (omega arith) c.loop-gate.invariant c.fan_ins_of_gate.ensures
