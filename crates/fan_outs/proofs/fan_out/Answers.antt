use Rattle.std.proofs.Common.{◌≡◌, rules, arith, sym, ap, ◌∙◌}
use Rattle.std.proofs.lemmas.Iterator.{YieldsList-from_slice, YieldsList-from_map}
use Rattle.std.proofs.lemmas.Iterator.Consumers.{sum_by_from_yields_List, fits_by_from_yields_list}
use Rattle.mig.specs.Networks.{uses_in}
use Rattle.fan_outs.proofs.Sums.{gate_names, uses_as_sum, uses_bound}
use Rattle.fan_outs.proofs.fan_out.Goals as goal

pub sum-fan_ins-requires-clause-fits : goal.sum-fan_ins-requires-clause-fits
sum-fan_ins-requires-clause-fits c =
    fits_by_from_yields_list (gate_names c.args.node) c.gates.result.now c.map.result 256
    (YieldsList-from_map _ (gate_names c.args.node) (YieldsList-from_slice c.gates.result.now cc) c.map.ensures.closure (λ x r q k. search rules))
    (omega (arith, c.gates.ensures.counted_up_to_seven, uses_as_sum c.args.node c.gates.result.now, uses_bound c.args.node c.gates.result.now))

-- the sum is that of the uses by all gates
summed : (c : goal.After-code_uses) → c.sum-fan_ins.result ≡ uses_in c.args.node c.gates.result.now
summed c =
    sum_by_from_yields_List (gate_names c.args.node) c.gates.result.now c.map.result c.sum-fan_ins.result c.sum-fan_ins.ensures.ran
    (YieldsList-from_map _ (gate_names c.args.node) (YieldsList-from_slice c.gates.result.now cc) c.map.ensures.closure (λ x r q k. search rules))
    ∙ sym (uses_as_sum c.args.node c.gates.result.now)

pub overflow_add-result : goal.overflow_add-result
overflow_add-result c =
    omega (arith, c.gates.ensures.counted_up_to_seven, summed c, uses_bound c.args.node c.gates.result.now, c.code_uses.ensures.bound)

pub returns : goal.returns
returns c = omega (arith, summed c, ap (uses_in c.args.node) c.gates.ensures.gates, c.code_uses.ensures.answer)
