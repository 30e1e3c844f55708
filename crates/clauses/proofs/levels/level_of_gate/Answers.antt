use Rattle.std.proofs.Common.{rules, [], ◌∷◌}
use Rattle.cnf.specs.Variables.{H, pos}
use Rattle.cnf.specs.Numbers.{numbered}
use Rattle.clauses.specs.Numbering.{numbered_by}
use Rattle.clauses.proofs.Takings.{took_both}
use Rattle.clauses.proofs.levels.level_of_gate.Goals as goal

pub returns : goal.returns
unfolding numbered
returns g c =
    let first : g.S.ClauseSink.took c.args.sink.now (numbered (numbered_by c.args.numbering.now) ((pos (H c.args.gate 0) ∷ []) ∷ [])) c.take.new.self = search rules in
    took_both g.S.ClauseSink.took (numbered_by c.args.numbering.now) g.met.S.ClauseSink.took_more ((pos (H c.args.gate 0) ∷ []) ∷ []) _ _ _ _ first c.above_fan_ins.ensures
