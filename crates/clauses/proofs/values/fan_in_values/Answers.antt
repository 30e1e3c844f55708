use Rattle.std.proofs.Common.{cond, leb, arith}
use Rattle.cnf.specs.Variables.{each, each_fan_in, each_row}
use Rattle.cnf.specs.Clauses.{given, fan_in_given, fan_in_gate}
use Rattle.clauses.specs.Numbering.{numbered_by}
use Rattle.clauses.proofs.Takings.{took_none, took_part}
use Rattle.clauses.proofs.values.fan_in_values.Goals as goal

pub loop-gate-init : goal.loop-gate-init
loop-gate-init g c = took_none g.S.ClauseSink.took (numbered_by c.args.numbering.now) g.met.S.ClauseSink.took_nothing _ _ _ _ (omega arith)

pub loop-gate-preserved : goal.loop-gate-preserved
loop-gate-preserved g c =
    took_part g.S.ClauseSink.took (numbered_by c.args.numbering.now) g.met.S.ClauseSink.took_more _ _ _ _ (λ i. each_fan_in (λ b. each 0 i (λ j. each_row c.args.numbering.now.inputs (λ t. cond (leb j c.args.numbering.now.inputs) (fan_in_given (given c.args.numbering.now.inputs t j) i b j t) (fan_in_gate i b j t))))) _ _ _ (omega arith) (omega arith) c.loop-gate.invariant c.fan_ins_of_gate.ensures
