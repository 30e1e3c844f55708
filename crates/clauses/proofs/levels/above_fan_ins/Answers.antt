use Rattle.std.proofs.Common.{suc, ◌+◌, ◌-◌, [], ◌∷◌, arith}
use Rattle.cnf.specs.Variables.{S, H, pos, neg, each}
use Rattle.clauses.specs.Numbering.{numbered_by}
use Rattle.clauses.proofs.Takings.{took_none, took_part}
use Rattle.clauses.proofs.levels.above_fan_ins.Goals as goal

pub loop-fan_in-init : goal.loop-fan_in-init
loop-fan_in-init g c = took_none g.S.ClauseSink.took (numbered_by c.args.numbering.now) g.met.S.ClauseSink.took_nothing _ _ _ _ (omega arith)

pub loop-fan_in-preserved : goal.loop-fan_in-preserved
loop-fan_in-preserved g c =
    took_part g.S.ClauseSink.took (numbered_by c.args.numbering.now) g.met.S.ClauseSink.took_more _ _ _ _ (λ x. each (suc c.args.numbering.now.inputs) (c.args.gate - suc c.args.numbering.now.inputs) (λ j. each 0 c.args.numbering.now.depth (λ e. (neg (S c.args.gate x j) ∷ neg (H j e) ∷ pos (H c.args.gate (e + 1)) ∷ []) ∷ []))) _ _ _ (omega arith) (omega arith) c.loop-fan_in.invariant c.above_fan_in.ensures
