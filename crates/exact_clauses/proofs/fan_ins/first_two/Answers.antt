use Rattle.std.proofs.Common.{rules, ◌≡◌, true, false, cond, eqb, [], ◌∷◌, sym, subst}
use Rattle.cnf.specs.Variables.{S, N, pos, neg}
use Rattle.cnf.specs.Numbers.{numbered}
use Rattle.clauses.specs.Numbering.{numbered_by}
use Rattle.exact_clauses.proofs.fan_ins.first_two.Goals as goal

pub returns-then-node-eq0 : goal.returns-then-node-eq0
unfolding numbered
returns-then-node-eq0 g c =
    let i = c.args.gate in
    let num = numbered_by c.args.numbering.now in
    let w : g.S.ClauseSink.took c.args.sink.now (numbered num ((neg (S i 1 c.args.node) ∷ neg (S i 2 c.args.next) ∷ pos (N i 2) ∷ []) ∷ [])) c.take.new.self = search rules in
    let e : eqb c.args.node 0 ≡ true = search rules in
    subst (λ b. g.S.ClauseSink.took c.args.sink.now (numbered num ((neg (S i 1 c.args.node) ∷ neg (S i 2 c.args.next) ∷ cond b (pos (N i 2) ∷ []) []) ∷ [])) c.take.new.self) (sym e) w

pub returns-else-node-eq0 : goal.returns-else-node-eq0
unfolding numbered
returns-else-node-eq0 g c =
    let i = c.args.gate in
    let num = numbered_by c.args.numbering.now in
    let w : g.S.ClauseSink.took c.args.sink.now (numbered num ((neg (S i 1 c.args.node) ∷ neg (S i 2 c.args.next) ∷ []) ∷ [])) c.take-else-node-eq0.new.self = search rules in
    let e : eqb c.args.node 0 ≡ false = search rules in
    subst (λ b. g.S.ClauseSink.took c.args.sink.now (numbered num ((neg (S i 1 c.args.node) ∷ neg (S i 2 c.args.next) ∷ cond b (pos (N i 2) ∷ []) []) ∷ [])) c.take-else-node-eq0.new.self) (sym e) w
