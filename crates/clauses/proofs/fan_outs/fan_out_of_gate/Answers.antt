use Rattle.std.proofs.Common.{rules, ◌≡◌, false, cond, [], length, sym, subst}
use Rattle.cnf.specs.Variables.{each, uses_of, outnumber}
use Rattle.cnf.specs.Clauses.{counter}
use Rattle.cnf.specs.Numbers.{numbered}
use Rattle.clauses.specs.Numbering.{numbered_by}
use Rattle.clauses.specs.Uses.{use_at}
use Rattle.clauses.proofs.fan_outs.fan_out_of_gate.Goals as goal

pub returns-else-uses-numbering : goal.returns-else-uses-numbering
unfolding numbered
returns-else-uses-numbering g c =
    let e = c.args.numbering.now in
    let none : outnumber e.inputs e.fan_out e.gates c.args.gate ≡ false = search rules in
    subst (λ b. g.S.ClauseSink.took c.args.sink.now (numbered (numbered_by e) (cond b (each 1 (length (uses_of e.inputs e.gates c.args.gate)) (λ k. counter e.fan_out c.args.gate (use_at e c.args.gate k) k)) [])) c.args.sink.now) (sym none)
    (g.met.S.ClauseSink.took_nothing c.args.sink.now)
