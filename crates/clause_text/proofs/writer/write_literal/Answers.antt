use Rattle.std.proofs.Common.{cond, [], ◌∷◌, ◌++◌}
use Rattle.std.specs.Fmt.{decimal}
use Rattle.clause_text.specs.Laws.{writes_more}
use Rattle.clause_text.proofs.writer.write_literal.Goals as goal

pub returns : goal.returns
returns c =
    writes_more (cond c.args.literal.now.negated (45 ∷ []) []) (decimal c.args.literal.now.variable ++ (32 ∷ [])) _ _ _ _ _ _
    c.write_sign-number.ensures
    (writes_more (decimal c.args.literal.now.variable) (32 ∷ []) _ _ _ _ _ _ c.write_decimal-space.ensures c.write_bytes.ensures)
