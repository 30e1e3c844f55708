use Rattle.std.proofs.Common.{rules, true, false, [], ◌∷◌}
use Rattle.cnf.specs.Numbers.{Clause}
use Rattle.clauses.proofs.values.pair_agrees.Goals as goal

pub returns : goal.returns
returns g c =
    let a = c.args.first in
    let b = c.args.second in
    let v = c.args.value in
    let x : Clause = record { variable = a; negated = true } ∷ record { variable = b; negated = true } ∷ record { variable = v; negated = false } ∷ [] in
    let y : Clause = record { variable = a; negated = false } ∷ record { variable = b; negated = false } ∷ record { variable = v; negated = true } ∷ [] in
    let first : g.S.ClauseSink.took c.args.sink.now (x ∷ []) c.take.new.self = search rules in
    let second : g.S.ClauseSink.took c.take.new.self (y ∷ []) c.take-2.new.self = search rules in
    g.met.S.ClauseSink.took_more _ _ _ (x ∷ []) (y ∷ []) first second
