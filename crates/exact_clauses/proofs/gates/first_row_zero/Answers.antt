use Rattle.std.proofs.Common.{rules, [], ◌∷◌, arith}
use Rattle.cnf.specs.Variables.{B, neg}
use Rattle.cnf.specs.Numbers.{numbered}
use Rattle.clauses.specs.Numbering.{numbered_by}
use Rattle.clauses.proofs.Takings.{took_none, took_part}
use Rattle.exact_clauses.proofs.gates.first_row_zero.Goals as goal

pub loop-gate-init : goal.loop-gate-init
loop-gate-init g c = took_none g.S.ClauseSink.took (numbered_by c.args.numbering.now) g.met.S.ClauseSink.took_nothing _ _ _ _ (omega arith)

pub loop-gate-preserved : goal.loop-gate-preserved
unfolding numbered
loop-gate-preserved g c =
    let w : g.S.ClauseSink.took c.loop-gate.sink (numbered (numbered_by c.args.numbering.now) ((neg (B c.loop-gate.gate 0) ∷ []) ∷ [])) c.take.new.self = search rules in
    took_part g.S.ClauseSink.took (numbered_by c.args.numbering.now) g.met.S.ClauseSink.took_more _ _ _ _ (λ i. (neg (B i 0) ∷ []) ∷ []) _ _ _ (omega arith) (omega arith) c.loop-gate.invariant w
