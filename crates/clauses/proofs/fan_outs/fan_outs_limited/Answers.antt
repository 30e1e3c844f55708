use Rattle.std.proofs.Common.{cond, [], length, arith}
use Rattle.cnf.specs.Variables.{each, uses_of, outnumber}
use Rattle.cnf.specs.Clauses.{counter}
use Rattle.clauses.specs.Numbering.{numbered_by}
use Rattle.clauses.specs.Uses.{use_at}
use Rattle.clauses.proofs.Takings.{took_none, took_part}
use Rattle.clauses.proofs.fan_outs.fan_outs_limited.Goals as goal

pub loop-gate-init : goal.loop-gate-init
loop-gate-init g c = took_none g.S.ClauseSink.took (numbered_by c.args.numbering.now) g.met.S.ClauseSink.took_nothing _ _ _ _ (omega arith)

pub loop-gate-preserved : goal.loop-gate-preserved
loop-gate-preserved g c =
    took_part g.S.ClauseSink.took (numbered_by c.args.numbering.now) g.met.S.ClauseSink.took_more _ _ _ _ (λ j. cond (outnumber c.args.numbering.now.inputs c.args.numbering.now.fan_out c.args.numbering.now.gates j) (each 1 (length (uses_of c.args.numbering.now.inputs c.args.numbering.now.gates j)) (λ k. counter c.args.numbering.now.fan_out j (use_at c.args.numbering.now j k) k)) []) _ _ _ (omega arith) (omega arith) c.loop-gate.invariant c.fan_out_of_gate.ensures
