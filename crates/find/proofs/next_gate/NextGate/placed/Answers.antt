use Rattle.std.proofs.Common.{◌+◌, ◌*◌, ◌∙◌, sym, refl, ap, subst, arith}
use Rattle.mig.specs.Networks.{network_of}
use Rattle.enumeration_laws.specs.Prefixes.{with_gate}
use Rattle.enumeration_laws.specs.Placed.{placed, IsPrefix}
use Rattle.enumeration_laws.proofs.Extended.{longer_is_prefix}
use Rattle.find.proofs.next_gate.NextGate.placed.Goals as goal

pub invariant_of-result-clause-is_prefix : goal.invariant_of-result-clause-is_prefix
invariant_of-result-clause-is_prefix c =
    let next = c.args.self.now in
    let prefix = next.prefix.now in
    let n = prefix.asked.question.inputs in
    let written = c.with_output.ensures ∙ ap (λ o. network_of (with_gate (placed prefix.network) next.gate (2 * o)))
    c.node.ensures in
    subst (IsPrefix n c.with_output.result) (sym c.columns.ensures)
    (longer_is_prefix prefix.is_prefix c.with_output.result next.gate written
    (n + 1 + prefix.network.count) next.column refl (omega arith) next.column_of_gate)
