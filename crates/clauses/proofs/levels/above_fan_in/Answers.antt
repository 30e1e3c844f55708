use Rattle.std.proofs.Common.{◌+◌, [], ◌∷◌, arith}
use Rattle.cnf.specs.Variables.{S, H, pos, neg, each}
use Rattle.clauses.specs.Numbering.{numbered_by}
use Rattle.clauses.proofs.Takings.{took_none, took_part}
use Rattle.clauses.proofs.levels.above_fan_in.Goals as goal

pub loop-node-init : goal.loop-node-init
loop-node-init g c = took_none g.S.ClauseSink.took (numbered_by c.args.numbering.now) g.met.S.ClauseSink.took_nothing _ _ _ _ (omega arith)

pub loop-node-preserved : goal.loop-node-preserved
loop-node-preserved g c =
    took_part g.S.ClauseSink.took (numbered_by c.args.numbering.now) g.met.S.ClauseSink.took_more _ _ _ _ (λ j. each 0 c.args.numbering.now.depth (λ e. (neg (S c.args.gate c.args.fan_in j) ∷ neg (H j e) ∷ pos (H c.args.gate (e + 1)) ∷ []) ∷ [])) _ _ _ (omega arith) (omega arith) c.loop-node.invariant c.above_gate.ensures
