use Rattle.std.proofs.Common.{suc, [], ◌∷◌, arith}
use Rattle.cnf.specs.Variables.{S, neg, each}
use Rattle.clauses.specs.Numbering.{numbered_by}
use Rattle.clauses.proofs.Takings.{took_none, took_part}
use Rattle.exact_clauses.proofs.gates.neighbours_ordered.Goals as goal

pub loop-gate-init : goal.loop-gate-init
loop-gate-init g c = took_none g.S.ClauseSink.took (numbered_by c.args.numbering.now) g.met.S.ClauseSink.took_nothing _ _ _ _ (omega arith)

pub loop-gate-preserved : goal.loop-gate-preserved
loop-gate-preserved g c =
    took_part g.S.ClauseSink.took (numbered_by c.args.numbering.now) g.met.S.ClauseSink.took_more _ _ _ _ (λ i. each 0 i (λ j. each 0 j (λ k. (neg (S i 3 j) ∷ neg (S (suc i) 3 k) ∷ []) ∷ []))) _ _ _ (omega arith) (omega arith) c.loop-gate.invariant c.next_in_order.ensures
