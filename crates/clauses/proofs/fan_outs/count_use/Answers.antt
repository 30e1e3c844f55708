use Rattle.std.proofs.Common.{rules, ◌≡◌, true, false, cond, ltb, [], ◌∷◌, sym, subst}
use Rattle.cnf.specs.Variables.{K, pos, neg, NamedClause}
use Rattle.cnf.specs.Clauses.{counter_step}
use Rattle.cnf.specs.Numbers.{numbered}
use Rattle.clauses.specs.Numbering.{numbered_by}
use Rattle.clauses.specs.Uses.{use_at}
use Rattle.clauses.proofs.Takings.{took_both}
use Rattle.clauses.proofs.fan_outs.count_use.Goals as goal

pub returns-then-taken-gt1 : goal.returns-then-taken-gt1
unfolding numbered
returns-then-taken-gt1 g c =
    let e = c.args.numbering.now in
    let u = c.args.taken in
    let v = use_at e u.gate u.place in
    let x : NamedClause = neg v ∷ pos (K u.gate u.place 1) ∷ [] in
    let first : g.S.ClauseSink.took c.args.sink.now (numbered (numbered_by e) (x ∷ [])) c.take.new.self = search rules in
    let more : ltb 1 u.place ≡ true = search rules in
    subst (λ b. g.S.ClauseSink.took c.args.sink.now (numbered (numbered_by e) (x ∷ cond b (counter_step e.fan_out u.gate v u.place) [])) c.count_goes_on.new.sink) (sym more)
    (took_both g.S.ClauseSink.took (numbered_by e) g.met.S.ClauseSink.took_more (x ∷ []) _ _ _ _ first c.count_goes_on.ensures)

pub returns-else-taken-gt1 : goal.returns-else-taken-gt1
unfolding numbered
returns-else-taken-gt1 g c =
    let e = c.args.numbering.now in
    let u = c.args.taken in
    let v = use_at e u.gate u.place in
    let x : NamedClause = neg v ∷ pos (K u.gate u.place 1) ∷ [] in
    let first : g.S.ClauseSink.took c.args.sink.now (numbered (numbered_by e) (x ∷ [])) c.take.new.self = search rules in
    let none : ltb 1 u.place ≡ false = search rules in
    subst (λ b. g.S.ClauseSink.took c.args.sink.now (numbered (numbered_by e) (x ∷ cond b (counter_step e.fan_out u.gate v u.place) [])) c.take.new.self) (sym none) first
