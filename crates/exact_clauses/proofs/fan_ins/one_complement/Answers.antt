use Rattle.std.proofs.Common.{rules, [], ◌∷◌}
use Rattle.cnf.specs.Variables.{N, neg, NamedClause}
use Rattle.cnf.specs.Numbers.{numbered}
use Rattle.clauses.specs.Numbering.{numbered_by}
use Rattle.clauses.proofs.Takings.{took_both}
use Rattle.exact_clauses.proofs.fan_ins.one_complement.Goals as goal

pub returns : goal.returns
unfolding numbered
returns g c =
    let i = c.args.gate in
    let num = numbered_by c.args.numbering.now in
    let x : NamedClause = neg (N i 1) ∷ neg (N i 2) ∷ [] in
    let y : NamedClause = neg (N i 1) ∷ neg (N i 3) ∷ [] in
    let z : NamedClause = neg (N i 2) ∷ neg (N i 3) ∷ [] in
    let more = took_both g.S.ClauseSink.took num g.met.S.ClauseSink.took_more in
    let first : g.S.ClauseSink.took c.args.sink.now (numbered num (x ∷ [])) c.take.new.self = search rules in
    let second : g.S.ClauseSink.took c.take.new.self (numbered num (y ∷ [])) c.take-2.new.self = search rules in
    let third : g.S.ClauseSink.took c.take-2.new.self (numbered num (z ∷ [])) c.take-3.new.self = search rules in
    more (x ∷ []) (y ∷ z ∷ []) _ _ _ first (more (y ∷ []) (z ∷ []) _ _ _ second third)
