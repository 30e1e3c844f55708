use Rattle.std.proofs.Common.{rules, [], ◌∷◌, arith}
use Rattle.cnf.specs.Variables.{S, neg}
use Rattle.cnf.specs.Numbers.{numbered}
use Rattle.clauses.specs.Numbering.{numbered_by}
use Rattle.clauses.proofs.Takings.{took_none, took_part}
use Rattle.exact_clauses.proofs.fan_ins.copies_gate.Goals as goal

pub loop-node-init : goal.loop-node-init
loop-node-init g c = took_none g.S.ClauseSink.took (numbered_by c.args.numbering.now) g.met.S.ClauseSink.took_nothing _ _ _ _ (omega arith)

pub loop-node-preserved : goal.loop-node-preserved
unfolding numbered
loop-node-preserved g c =
    let w : g.S.ClauseSink.took c.loop-node.sink (numbered (numbered_by c.args.numbering.now) ((neg (S c.args.gate 1 0) ∷ neg (S c.args.gate 2 0) ∷ neg (S c.args.gate 3 c.loop-node.node) ∷ []) ∷ [])) c.take.new.self = search rules in
    took_part g.S.ClauseSink.took (numbered_by c.args.numbering.now) g.met.S.ClauseSink.took_more _ _ _ _ (λ j. (neg (S c.args.gate 1 0) ∷ neg (S c.args.gate 2 0) ∷ neg (S c.args.gate 3 j) ∷ []) ∷ []) _ _ _ (omega arith) (omega arith) c.loop-node.invariant w
