use Rattle.std.proofs.Common.{◌≡◌, ℕ, ◌+◌, ◌-◌, ◌≤◌, length, sym, ap, ◌∙◌, arith}
use Rattle.cnf.specs.Variables.{uses_of}
use Rattle.cnf_laws.proofs.Each.{length_uses}
use Rattle.clauses.specs.Numbering.{numbered_by}
use Rattle.clauses.proofs.Uses.{use_of_fan_in, use_of_output}
use Rattle.clauses.proofs.fan_outs.use_variable.Goals as goal

-- a use before the last is one of a later gate
low : (n r j p u : ℕ) → n ≤ 4 → r ≤ 7 → u ≡ length (uses_of n r j) → 1 ≤ p → p ≤ length (uses_of n r j) → (p ≡ u → ⊥) → (j ≤ 11) × (p + 1 ≤ u) × (p ≤ 33)
low n r j p u a b e l m ne = let k = length_uses n r j in (omega arith, omega arith, omega arith)

pub overflow_add-gate : goal.overflow_add-gate
overflow_add-gate c =
    let e = c.args.numbering.now in
    let l = low e.inputs e.gates c.args.gate c.args.place c.uses.result e.few_inputs e.few_gates c.uses.ensures.count c.requires.1 c.requires.2 c.if-place-uses.false in
    omega (arith, l.0)

pub overflow_add-gate-else-place-uses : goal.overflow_add-gate-else-place-uses
overflow_add-gate-else-place-uses c =
    let e = c.args.numbering.now in
    let l = low e.inputs e.gates c.args.gate c.args.place c.uses.result e.few_inputs e.few_gates c.uses.ensures.count c.requires.1 c.requires.2 c.if-place-uses.false in
    omega (arith, l.0, l.2)

pub returns-else-place-uses : goal.returns-else-place-uses
returns-else-place-uses c =
    let e = c.args.numbering.now in
    let l = low e.inputs e.gates c.args.gate c.args.place c.uses.result e.few_inputs e.few_gates c.uses.ensures.count c.requires.1 c.requires.2 c.if-place-uses.false in
    c.fan_in_is.ensures
    ∙ ap (numbered_by e) (sym (use_of_fan_in e.inputs e.gates c.args.gate (c.args.place - 1) (omega (arith, l.1, c.uses.ensures.count, c.requires.1))))

pub returns-then-place-uses : goal.returns-then-place-uses
returns-then-place-uses c =
    let e = c.args.numbering.now in
    c.output_is.ensures
    ∙ ap (numbered_by e) (sym (use_of_output e.inputs e.gates c.args.gate (c.args.place - 1) (omega (arith, c.if-place-uses.true, c.uses.ensures.count, c.requires.1))))
