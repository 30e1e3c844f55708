use Rattle.std.proofs.Common.{rules, [], ◌∷◌}
use Rattle.cnf.specs.Variables.{S, neg, NamedClause}
use Rattle.cnf.specs.Numbers.{numbered}
use Rattle.clauses.specs.Numbering.{numbered_by}
use Rattle.clauses.proofs.Takings.{took_both}
use Rattle.exact_clauses.specs.Pairs.{first_two_rise}
use Rattle.exact_clauses.proofs.fan_ins.no_fall.Goals as goal

pub returns : goal.returns
unfolding numbered
returns g c =
    let i = c.args.gate in
    let num = numbered_by c.args.numbering.now in
    let y : NamedClause = neg (S i 2 c.args.node) ∷ neg (S i 3 c.args.next) ∷ [] in
    let second : g.S.ClauseSink.took c.first_two.new.sink (numbered num (y ∷ [])) c.take.new.self = search rules in
    took_both g.S.ClauseSink.took num g.met.S.ClauseSink.took_more (first_two_rise i c.args.node c.args.next ∷ []) (y ∷ []) _ _ _ c.first_two.ensures second
