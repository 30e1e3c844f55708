use Rattle.std.proofs.Common.{rules, [], ◌∷◌}
use Rattle.cnf.specs.Variables.{S, N, A, B, pos, neg, NamedClause}
use Rattle.cnf.specs.Numbers.{numbered}
use Rattle.clauses.specs.Numbering.{numbered_by}
use Rattle.clauses.proofs.Takings.{took_both}
use Rattle.clauses.proofs.values.gate_fan_in.Goals as goal

pub returns : goal.returns
unfolding numbered
returns g c =
    let i = c.args.gate in
    let b = c.args.fan_in in
    let j = c.args.node in
    let t = c.args.row in
    let num = numbered_by c.args.numbering.now in
    let x : NamedClause = neg (S i b j) ∷ neg (A i b t) ∷ pos (B j t) ∷ pos (N i b) ∷ [] in
    let y : NamedClause = neg (S i b j) ∷ pos (A i b t) ∷ neg (B j t) ∷ pos (N i b) ∷ [] in
    let z : NamedClause = neg (S i b j) ∷ pos (A i b t) ∷ pos (B j t) ∷ neg (N i b) ∷ [] in
    let w : NamedClause = neg (S i b j) ∷ neg (A i b t) ∷ neg (B j t) ∷ neg (N i b) ∷ [] in
    let first : g.S.ClauseSink.took c.args.sink.now (numbered num (x ∷ [])) c.take.new.self = search rules in
    let second : g.S.ClauseSink.took c.take.new.self (numbered num (y ∷ [])) c.take-2.new.self = search rules in
    let third : g.S.ClauseSink.took c.take-2.new.self (numbered num (z ∷ [])) c.take-3.new.self = search rules in
    let fourth : g.S.ClauseSink.took c.take-3.new.self (numbered num (w ∷ [])) c.take-4.new.self = search rules in
    let more = took_both g.S.ClauseSink.took num g.met.S.ClauseSink.took_more in
    more (x ∷ y ∷ []) (z ∷ w ∷ []) _ _ _ (more (x ∷ []) (y ∷ []) _ _ _ first second) (more (z ∷ []) (w ∷ []) _ _ _ third fourth)
