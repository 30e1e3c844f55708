use Rattle.std.proofs.Common.{suc, [], ◌∷◌, arith}
use Rattle.cnf.specs.Variables.{S, neg, each}
use Rattle.clauses.specs.Numbering.{numbered_by}
use Rattle.clauses.proofs.Takings.{took_none, took_part}
use Rattle.exact_clauses.proofs.gates.next_in_order.Goals as goal

pub loop-node-init : goal.loop-node-init
loop-node-init g c = took_none g.S.ClauseSink.took (numbered_by c.args.numbering.now) g.met.S.ClauseSink.took_nothing _ _ _ _ (omega arith)

pub loop-node-preserved : goal.loop-node-preserved
loop-node-preserved g c =
    took_part g.S.ClauseSink.took (numbered_by c.args.numbering.now) g.met.S.ClauseSink.took_more _ _ _ _ (λ j. each 0 j (λ k. (neg (S c.args.gate 3 j) ∷ neg (S (suc c.args.gate) 3 k) ∷ []) ∷ [])) _ _ _ (omega arith) (omega arith) c.loop-node.invariant c.next_not_before.ensures
