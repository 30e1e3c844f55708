use Rattle.std.proofs.Common.{rules, ◌+◌, [], ◌∷◌, arith}
use Rattle.cnf.specs.Variables.{S, H, pos, neg}
use Rattle.cnf.specs.Numbers.{numbered}
use Rattle.clauses.specs.Numbering.{numbered_by}
use Rattle.clauses.proofs.Takings.{took_none, took_part}
use Rattle.clauses.proofs.levels.above_gate.Goals as goal

pub loop-level-init : goal.loop-level-init
loop-level-init g c = took_none g.S.ClauseSink.took (numbered_by c.args.numbering.now) g.met.S.ClauseSink.took_nothing _ _ _ _ (omega arith)

pub loop-level-preserved : goal.loop-level-preserved
unfolding numbered
loop-level-preserved g c =
    let w : g.S.ClauseSink.took c.loop-level.sink (numbered (numbered_by c.args.numbering.now) ((neg (S c.args.gate c.args.fan_in c.args.node) ∷ neg (H c.args.node c.loop-level.level) ∷ pos (H c.args.gate (c.loop-level.level + 1)) ∷ []) ∷ [])) c.take.new.self = search rules in
    took_part g.S.ClauseSink.took (numbered_by c.args.numbering.now) g.met.S.ClauseSink.took_more _ _ _ _ (λ e. (neg (S c.args.gate c.args.fan_in c.args.node) ∷ neg (H c.args.node e) ∷ pos (H c.args.gate (e + 1)) ∷ []) ∷ []) _ _ _ (omega arith) (omega arith) c.loop-level.invariant w
