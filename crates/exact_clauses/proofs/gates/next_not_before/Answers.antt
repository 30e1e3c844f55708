use Rattle.std.proofs.Common.{rules, suc, [], ◌∷◌, arith}
use Rattle.cnf.specs.Variables.{S, neg}
use Rattle.cnf.specs.Numbers.{numbered}
use Rattle.clauses.specs.Numbering.{numbered_by}
use Rattle.clauses.proofs.Takings.{took_none, took_part}
use Rattle.exact_clauses.proofs.gates.next_not_before.Goals as goal

pub loop-earlier-init : goal.loop-earlier-init
loop-earlier-init g c = took_none g.S.ClauseSink.took (numbered_by c.args.numbering.now) g.met.S.ClauseSink.took_nothing _ _ _ _ (omega arith)

pub loop-earlier-preserved : goal.loop-earlier-preserved
unfolding numbered
loop-earlier-preserved g c =
    let w : g.S.ClauseSink.took c.loop-earlier.sink (numbered (numbered_by c.args.numbering.now) ((neg (S c.args.gate 3 c.args.node) ∷ neg (S (suc c.args.gate) 3 c.loop-earlier.earlier) ∷ []) ∷ [])) c.take.new.self = search rules in
    took_part g.S.ClauseSink.took (numbered_by c.args.numbering.now) g.met.S.ClauseSink.took_more _ _ _ _ (λ k. (neg (S c.args.gate 3 c.args.node) ∷ neg (S (suc c.args.gate) 3 k) ∷ []) ∷ []) _ _ _ (omega arith) (omega arith) c.loop-earlier.invariant w
