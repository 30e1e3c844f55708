use Rattle.std.proofs.Common.{rules, [], ◌∷◌, arith}
use Rattle.cnf.specs.Variables.{neg}
use Rattle.cnf.specs.Numbers.{numbered}
use Rattle.clauses.specs.Numbering.{numbered_by}
use Rattle.clauses.specs.Choices.{variable_of}
use Rattle.clauses.proofs.Takings.{took_none, took_part}
use Rattle.clauses.proofs.choices.not_both.Goals as goal

pub loop-later-init : goal.loop-later-init
loop-later-init g c = took_none g.S.ClauseSink.took (numbered_by c.args.numbering.now) g.met.S.ClauseSink.took_nothing _ _ _ _ (omega arith)

pub loop-later-preserved : goal.loop-later-preserved
unfolding numbered
loop-later-preserved g c =
    let w : g.S.ClauseSink.took c.loop-later.sink (numbered (numbered_by c.args.numbering.now) ((neg (variable_of c.args.choice c.args.node) ∷ neg (variable_of c.args.choice c.loop-later.later) ∷ []) ∷ [])) c.take.new.self = search rules in
    took_part g.S.ClauseSink.took (numbered_by c.args.numbering.now) g.met.S.ClauseSink.took_more _ _ _ _ (λ y. (neg (variable_of c.args.choice c.args.node) ∷ neg (variable_of c.args.choice y) ∷ []) ∷ []) _ _ _ (omega arith) (omega arith) c.loop-later.invariant w
