use Rattle.std.proofs.Common.{[], ◌∷◌, ◌++◌, codes}
use Rattle.std.specs.Fmt.{decimal}
use Rattle.clause_text.specs.Laws.{writes_more}
use Rattle.clause_text.proofs.head.write_head.Goals as goal

pub returns : goal.returns
returns c =
    let v = c.args.variables in
    let n = c.args.clauses in
    writes_more (codes "p cnf ") (decimal v ++ (32 ∷ (decimal n ++ (10 ∷ [])))) _ _ _ _ _ _ c.write_bytes-first.ensures
    (writes_more (decimal v) (32 ∷ (decimal n ++ (10 ∷ []))) _ _ _ _ _ _ c.write_decimal-space.ensures
    (writes_more (32 ∷ []) (decimal n ++ (10 ∷ [])) _ _ _ _ _ _ c.write_bytes-second.ensures
    (writes_more (decimal n) (10 ∷ []) _ _ _ _ _ _ c.write_decimal-end.ensures c.write_bytes.ensures)))
