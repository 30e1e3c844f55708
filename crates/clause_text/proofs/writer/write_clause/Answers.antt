use Rattle.std.proofs.Common.{ℕ, List, [], ◌∷◌, sym, subst}
use Rattle.std.specs.List.{flat_map}
use Rattle.std.proofs.lemmas.List.{take_all}
use Rattle.cnf.specs.Text.{literal_text}
use Rattle.clause_text.specs.Writing.{Writes}
use Rattle.clause_text.specs.Laws.{writes_more}
use Rattle.clause_text.proofs.Lists.{flat_map_taken}
use Rattle.clause_text.proofs.writer.write_clause.Goals as goal

pub loop-literal-preserved : goal.loop-literal-preserved
loop-literal-preserved c =
    subst (λ (bytes : List ℕ). Writes bytes c.args.buffer.now c.args.place c.write_literal-behind.new.buffer c.write_literal-behind.result)
    (sym (flat_map_taken literal_text c.args.clause.now c.loop-literal.literal-index _ c.loop-literal-test.true))
    (writes_more _ _ _ _ _ _ _ _ c.loop-literal.invariant c.write_literal-behind.ensures)

pub returns : goal.returns
returns c =
    writes_more (flat_map literal_text c.args.clause.now) (48 ∷ 10 ∷ []) _ _ _ _ _ _
    (subst (λ ls. Writes (flat_map literal_text ls) c.args.buffer.now c.args.place c.loop-literal.buffer c.loop-literal.behind)
    (take_all c.loop-literal.literal-index c.args.clause.now c.loop-literal-test.false) c.loop-literal.invariant)
    c.write_bytes.ensures
