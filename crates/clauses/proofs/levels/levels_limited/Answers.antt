use Rattle.clauses.specs.Numbering.{numbered_by}
use Rattle.clauses.proofs.Takings.{took_both}
use Rattle.clauses.proofs.levels.levels_limited.Goals as goal

pub returns : goal.returns
returns g c =
    took_both g.S.ClauseSink.took (numbered_by c.args.numbering.now) g.met.S.ClauseSink.took_more _ _ _ _ _ c.levels_of_gates.ensures c.output_level.ensures
