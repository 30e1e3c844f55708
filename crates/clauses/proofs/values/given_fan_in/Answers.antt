use Rattle.std.proofs.Common.{rules, [], ◌∷◌, sym, ◌∙◌, subst}
use Rattle.cnf.specs.Variables.{S, N, A, pos, neg, NamedClause}
use Rattle.cnf.specs.Clauses.{fan_in_given}
use Rattle.cnf.specs.Numbers.{numbered}
use Rattle.clauses.specs.Numbering.{numbered_by}
use Rattle.clauses.proofs.Takings.{took_both}
use Rattle.clauses.proofs.values.given_fan_in.Goals as goal

pub returns-then-given_value : goal.returns-then-given_value
unfolding numbered
returns-then-given_value g c =
    let i = c.args.gate in
    let b = c.args.fan_in in
    let j = c.args.node in
    let t = c.args.row in
    let num = numbered_by c.args.numbering.now in
    let x : NamedClause = neg (S i b j) ∷ pos (A i b t) ∷ pos (N i b) ∷ [] in
    let y : NamedClause = neg (S i b j) ∷ neg (A i b t) ∷ neg (N i b) ∷ [] in
    let first : g.S.ClauseSink.took c.args.sink.now (numbered num (x ∷ [])) c.take.new.self = search rules in
    let second : g.S.ClauseSink.took c.take.new.self (numbered num (y ∷ [])) c.take-then-given_value.new.self = search rules in
    subst (λ v. g.S.ClauseSink.took c.args.sink.now (numbered num (fan_in_given v i b j t)) c.take-then-given_value.new.self)
    (sym c.if-given_value.true ∙ c.given_value.ensures)
    (took_both g.S.ClauseSink.took num g.met.S.ClauseSink.took_more (x ∷ []) (y ∷ []) _ _ _ first second)

pub returns-else-given_value : goal.returns-else-given_value
unfolding numbered
returns-else-given_value g c =
    let i = c.args.gate in
    let b = c.args.fan_in in
    let j = c.args.node in
    let t = c.args.row in
    let num = numbered_by c.args.numbering.now in
    let x : NamedClause = neg (S i b j) ∷ neg (A i b t) ∷ pos (N i b) ∷ [] in
    let y : NamedClause = neg (S i b j) ∷ pos (A i b t) ∷ neg (N i b) ∷ [] in
    let first : g.S.ClauseSink.took c.args.sink.now (numbered num (x ∷ [])) c.take-else-given_value.new.self = search rules in
    let second : g.S.ClauseSink.took c.take-else-given_value.new.self (numbered num (y ∷ [])) c.take-else-given_value-2.new.self = search rules in
    subst (λ v. g.S.ClauseSink.took c.args.sink.now (numbered num (fan_in_given v i b j t)) c.take-else-given_value-2.new.self)
    (sym c.if-given_value.false ∙ c.given_value.ensures)
    (took_both g.S.ClauseSink.took num g.met.S.ClauseSink.took_more (x ∷ []) (y ∷ []) _ _ _ first second)
