use Rattle.std.proofs.Common.{rules, ◌-◌, [], ◌∷◌}
use Rattle.cnf.specs.Variables.{K, neg, NamedClause}
use Rattle.cnf.specs.Numbers.{numbered}
use Rattle.clauses.specs.Numbering.{numbered_by}
use Rattle.clauses.specs.Uses.{use_at}
use Rattle.clauses.proofs.Takings.{took_both}
use Rattle.clauses.proofs.fan_outs.count_goes_on.Goals as goal

pub returns : goal.returns
unfolding numbered
returns g c =
    let e = c.args.numbering.now in
    let u = c.args.taken in
    let x : NamedClause = neg (use_at e u.gate u.place) ∷ neg (K u.gate (u.place - 1) e.fan_out) ∷ [] in
    let more = took_both g.S.ClauseSink.took (numbered_by e) g.met.S.ClauseSink.took_more in
    let last : g.S.ClauseSink.took c.count_rises.new.sink (numbered (numbered_by e) (x ∷ [])) c.take.new.self = search rules in
    more _ _ _ _ _ c.count_stays.ensures (more _ (x ∷ []) _ _ _ c.count_rises.ensures last)
