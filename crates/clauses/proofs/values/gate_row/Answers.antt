use Rattle.std.proofs.Common.{rules, ℕ, [], ◌∷◌}
use Rattle.cnf.specs.Variables.{A, B, pos, neg, NamedClause}
use Rattle.cnf.specs.Numbers.{numbered}
use Rattle.clauses.specs.Numbering.{numbered_by}
use Rattle.clauses.proofs.Takings.{took_both}
use Rattle.clauses.proofs.values.gate_row.Goals as goal

pub returns : goal.returns
unfolding numbered
returns g c =
    let i = c.args.gate in
    let t = c.args.row in
    let num = numbered_by c.args.numbering.now in
    let down : ℕ → ℕ → NamedClause = λ a b. neg (A i a t) ∷ neg (A i b t) ∷ pos (B i t) ∷ [] in
    let up : ℕ → ℕ → NamedClause = λ a b. pos (A i a t) ∷ pos (A i b t) ∷ neg (B i t) ∷ [] in
    let first : g.S.ClauseSink.took c.args.sink.now (numbered num (down 1 2 ∷ up 1 2 ∷ [])) c.pair_agrees.new.sink = search rules in
    let second : g.S.ClauseSink.took c.pair_agrees.new.sink (numbered num (down 1 3 ∷ up 1 3 ∷ [])) c.pair_agrees-2.new.sink = search rules in
    let third : g.S.ClauseSink.took c.pair_agrees-2.new.sink (numbered num (down 2 3 ∷ up 2 3 ∷ [])) c.pair_agrees-3.new.sink = search rules in
    let more = took_both g.S.ClauseSink.took num g.met.S.ClauseSink.took_more in
    more (down 1 2 ∷ up 1 2 ∷ []) (down 1 3 ∷ up 1 3 ∷ down 2 3 ∷ up 2 3 ∷ []) _ _ _ first
    (more (down 1 3 ∷ up 1 3 ∷ []) (down 2 3 ∷ up 2 3 ∷ []) _ _ _ second third)
