use Rattle.std.proofs.Common.{rules, ◌≡◌, ◌+◌, true, false, cond, eqb, [], ◌∷◌, sym, subst}
use Rattle.cnf.specs.Variables.{O, pos}
use Rattle.cnf.specs.Numbers.{numbered}
use Rattle.clauses.specs.Numbering.{numbered_by}
use Rattle.exact_clauses.proofs.gates.output_last.Goals as goal

pub returns-then-numbering-gt0 : goal.returns-then-numbering-gt0
unfolding numbered
returns-then-numbering-gt0 g c =
    let e = c.args.numbering.now in
    let w : g.S.ClauseSink.took c.args.sink.now (numbered (numbered_by e) ((pos (O (e.inputs + e.gates)) ∷ []) ∷ [])) c.take.new.self = search rules in
    let some : eqb e.gates 0 ≡ false = search rules in
    subst (λ b. g.S.ClauseSink.took c.args.sink.now (numbered (numbered_by e) (cond b [] ((pos (O (e.inputs + e.gates)) ∷ []) ∷ []))) c.take.new.self) (sym some) w

pub returns-else-numbering-gt0 : goal.returns-else-numbering-gt0
unfolding numbered
returns-else-numbering-gt0 g c =
    let e = c.args.numbering.now in
    let none : eqb e.gates 0 ≡ true = search rules in
    subst (λ b. g.S.ClauseSink.took c.args.sink.now (numbered (numbered_by e) (cond b [] ((pos (O (e.inputs + e.gates)) ∷ []) ∷ []))) c.args.sink.now) (sym none)
    (g.met.S.ClauseSink.took_nothing c.args.sink.now)
