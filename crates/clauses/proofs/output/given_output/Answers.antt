use Rattle.std.proofs.Common.{rules, ◌≡◌, ℕ, Bool, true, false, [], ◌∷◌, sym, refl, subst}
use Rattle.std.proofs.lemmas.Bool.{false≢true, true≢false}
use Rattle.std.specs.Bool.{beq}
use Rattle.cnf.specs.Variables.{O, Q, pos, neg}
use Rattle.cnf.specs.Clauses.{output_given}
use Rattle.cnf.specs.Numbers.{numbered}
use Rattle.clauses.specs.Numbering.{numbered_by}
use Rattle.clauses.proofs.output.given_output.Goals as goal

same : (v f : Bool) (j : ℕ) → beq v f ≡ true → output_given v f j ≡ (neg (O j) ∷ neg Q ∷ []) ∷ []
same true true j e = refl
same true false j e = absurd (false≢true e)
same false true j e = absurd (false≢true e)
same false false j e = refl

other : (v f : Bool) (j : ℕ) → beq v f ≡ false → output_given v f j ≡ (neg (O j) ∷ pos Q ∷ []) ∷ []
other true true j e = absurd (true≢false e)
other true false j e = refl
other false true j e = refl
other false false j e = absurd (true≢false e)

pub returns-then-value-wanted : goal.returns-then-value-wanted
unfolding numbered
returns-then-value-wanted g c =
    let w : g.S.ClauseSink.took c.args.sink.now
    (numbered (numbered_by c.args.numbering.now) ((neg (O c.args.node) ∷ neg Q ∷ []) ∷ [])) c.take.new.self = search rules in
    subst (λ cs. g.S.ClauseSink.took c.args.sink.now (numbered (numbered_by c.args.numbering.now) cs) c.take.new.self)
    (sym (same c.args.value c.args.wanted c.args.node c.if-value-wanted.true)) w

pub returns-else-value-wanted : goal.returns-else-value-wanted
unfolding numbered
returns-else-value-wanted g c =
    let w : g.S.ClauseSink.took c.args.sink.now
    (numbered (numbered_by c.args.numbering.now) ((neg (O c.args.node) ∷ pos Q ∷ []) ∷ [])) c.take-else-value-wanted.new.self = search rules in
    subst (λ cs. g.S.ClauseSink.took c.args.sink.now (numbered (numbered_by c.args.numbering.now) cs) c.take-else-value-wanted.new.self)
    (sym (other c.args.value c.args.wanted c.args.node c.if-value-wanted.false)) w
