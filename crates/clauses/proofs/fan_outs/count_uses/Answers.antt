use Rattle.std.proofs.Common.{arith}
use Rattle.cnf.specs.Clauses.{counter}
use Rattle.clauses.specs.Numbering.{numbered_by}
use Rattle.clauses.specs.Uses.{use_at}
use Rattle.clauses.proofs.Takings.{took_none, took_part}
use Rattle.clauses.proofs.fan_outs.count_uses.Goals as goal

pub loop-place-init : goal.loop-place-init
loop-place-init g c = took_none g.S.ClauseSink.took (numbered_by c.args.numbering.now) g.met.S.ClauseSink.took_nothing _ _ _ _ (omega arith)

pub loop-place-preserved : goal.loop-place-preserved
loop-place-preserved g c =
    took_part g.S.ClauseSink.took (numbered_by c.args.numbering.now) g.met.S.ClauseSink.took_more _ _ _ _ (λ k. counter c.args.numbering.now.fan_out c.args.gate (use_at c.args.numbering.now c.args.gate k) k) _ _ _ (omega arith) (omega arith) c.loop-place.invariant c.count_use.ensures
