use Rattle.std.proofs.Common.{rules, [], ◌∷◌, sym, subst}
use Rattle.cnf.specs.Variables.{B, O, Q, pos, neg, NamedClause}
use Rattle.cnf.specs.Clauses.{output_gate}
use Rattle.cnf.specs.Numbers.{numbered}
use Rattle.clauses.specs.Numbering.{numbered_by}
use Rattle.clauses.proofs.Takings.{took_both}
use Rattle.clauses.proofs.output.gate_output.Goals as goal

pub returns-then-wanted : goal.returns-then-wanted
unfolding numbered
returns-then-wanted g c =
    let j = c.args.node in
    let t = c.args.row in
    let num = numbered_by c.args.numbering.now in
    let x : NamedClause = neg (O j) ∷ pos (B j t) ∷ pos Q ∷ [] in
    let y : NamedClause = neg (O j) ∷ neg (B j t) ∷ neg Q ∷ [] in
    let first : g.S.ClauseSink.took c.args.sink.now (numbered num (x ∷ [])) c.take.new.self = search rules in
    let second : g.S.ClauseSink.took c.take.new.self (numbered num (y ∷ [])) c.take-then-wanted.new.self = search rules in
    subst (λ b. g.S.ClauseSink.took c.args.sink.now (numbered num (output_gate b j t)) c.take-then-wanted.new.self) (sym c.if-wanted.true)
    (took_both g.S.ClauseSink.took num g.met.S.ClauseSink.took_more (x ∷ []) (y ∷ []) _ _ _ first second)

pub returns-else-wanted : goal.returns-else-wanted
unfolding numbered
returns-else-wanted g c =
    let j = c.args.node in
    let t = c.args.row in
    let num = numbered_by c.args.numbering.now in
    let x : NamedClause = neg (O j) ∷ neg (B j t) ∷ pos Q ∷ [] in
    let y : NamedClause = neg (O j) ∷ pos (B j t) ∷ neg Q ∷ [] in
    let first : g.S.ClauseSink.took c.args.sink.now (numbered num (x ∷ [])) c.take-else-wanted.new.self = search rules in
    let second : g.S.ClauseSink.took c.take-else-wanted.new.self (numbered num (y ∷ [])) c.take-else-wanted-2.new.self = search rules in
    subst (λ b. g.S.ClauseSink.took c.args.sink.now (numbered num (output_gate b j t)) c.take-else-wanted-2.new.self) (sym c.if-wanted.false)
    (took_both g.S.ClauseSink.took num g.met.S.ClauseSink.took_more (x ∷ []) (y ∷ []) _ _ _ first second)
