use Rattle.std.proofs.Common.{suc, ◌+◌, ◌-◌, [], ◌∷◌, arith}
use Rattle.cnf.specs.Variables.{S, H, pos, neg, each, each_fan_in}
use Rattle.clauses.specs.Numbering.{numbered_by}
use Rattle.clauses.proofs.Takings.{took_none, took_part}
use Rattle.clauses.proofs.levels.levels_of_gates.Goals as goal

pub loop-gate-init : goal.loop-gate-init
loop-gate-init g c = took_none g.S.ClauseSink.took (numbered_by c.args.numbering.now) g.met.S.ClauseSink.took_nothing _ _ _ _ (omega arith)

pub loop-gate-preserved : goal.loop-gate-preserved
loop-gate-preserved g c =
    took_part g.S.ClauseSink.took (numbered_by c.args.numbering.now) g.met.S.ClauseSink.took_more _ _ _ _ (λ i. (pos (H i 0) ∷ []) ∷ each_fan_in (λ b. each (suc c.args.numbering.now.inputs) (i - suc c.args.numbering.now.inputs) (λ j. each 0 c.args.numbering.now.depth (λ e. (neg (S i b j) ∷ neg (H j e) ∷ pos (H i (e + 1)) ∷ []) ∷ [])))) _ _ _ (omega arith) (omega arith) c.loop-gate.invariant c.level_of_gate.ensures
