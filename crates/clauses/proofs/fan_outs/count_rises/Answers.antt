use Rattle.std.proofs.Common.{rules, ◌+◌, ◌-◌, [], ◌∷◌, arith}
use Rattle.cnf.specs.Variables.{K, pos, neg}
use Rattle.cnf.specs.Numbers.{numbered}
use Rattle.clauses.specs.Numbering.{numbered_by}
use Rattle.clauses.specs.Uses.{use_at}
use Rattle.clauses.proofs.Takings.{took_none, took_part}
use Rattle.clauses.proofs.fan_outs.count_rises.Goals as goal

pub loop-count-init : goal.loop-count-init
loop-count-init g c = took_none g.S.ClauseSink.took (numbered_by c.args.numbering.now) g.met.S.ClauseSink.took_nothing _ _ _ _ (omega arith)

pub loop-count-preserved : goal.loop-count-preserved
unfolding numbered
loop-count-preserved g c =
    let w : g.S.ClauseSink.took c.loop-count.sink (numbered (numbered_by c.args.numbering.now) ((neg (use_at c.args.numbering.now c.args.taken.gate c.args.taken.place) ∷ neg (K c.args.taken.gate (c.args.taken.place - 1) c.loop-count.count) ∷ pos (K c.args.taken.gate c.args.taken.place (c.loop-count.count + 1)) ∷ []) ∷ [])) c.take.new.self = search rules in
    took_part g.S.ClauseSink.took (numbered_by c.args.numbering.now) g.met.S.ClauseSink.took_more _ _ _ _ (λ q. (neg (use_at c.args.numbering.now c.args.taken.gate c.args.taken.place) ∷ neg (K c.args.taken.gate (c.args.taken.place - 1) q) ∷ pos (K c.args.taken.gate c.args.taken.place (q + 1)) ∷ []) ∷ []) _ _ _ (omega arith) (omega arith) c.loop-count.invariant w
