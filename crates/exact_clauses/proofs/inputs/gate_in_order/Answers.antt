use Rattle.cnf.specs.Numbers.{numbered}
use Rattle.exact_clauses.proofs.inputs.gate_in_order.Goals as goal

pub returns : goal.returns
unfolding numbered
returns g c =
    let more = g.met.S.ClauseSink.took_more in
    more _ _ _ _ _ c.named_up_to.ensures (more _ _ _ _ _ c.named_up_to-2.ensures c.named_up_to-3.ensures)
