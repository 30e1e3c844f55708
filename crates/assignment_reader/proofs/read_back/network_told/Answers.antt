use Rattle.std.proofs.Common.{◌≡◌, ℕ, suc, ◌+◌, ◌-◌, ◌++◌, replicate, ap, ◌∙◌, sym, arith}
use Rattle.mig.specs.declared.network.Gate.{Gate}
use Rattle.mig.specs.Networks.{empty_gate}
use Rattle.mig_laws.proofs.Places.{same_network, default_gate}
use Rattle.cnf.specs.Variables.{O}
use Rattle.cnf.specs.Meaning.{pick, read_gate, read_gates}
use Rattle.cnf.specs.Numbers.{bit_of}
use Rattle.cnf.specs.Rules.{bits_of_bytes}
use Rattle.cnf_laws.proofs.ReadBack.{length-read_gates}
use Rattle.clauses.specs.Numbering.{numbered_by}
use Rattle.assignment_reader.specs.Told.{told_by}
use Rattle.assignment_reader.proofs.Told.{next_O, picked, same_code, gate_written}
use Rattle.assignment_reader.proofs.read_back.network_told.Goals as goal

pub loop-place-init : goal.loop-place-init
unfolding read_gates
loop-place-init c = ap (λ (g : Gate). replicate 7 g) (default_gate c.default-gates.result c.default-gates.ensures)

pub loop-place-preserved : goal.loop-place-preserved
loop-place-preserved c =
    let e = c.args.numbering.now in
    let s = told_by e c.args.bytes.now in
    let i : e.inputs + 1 + c.loop-place.place ≡ suc e.inputs + c.loop-place.place = omega arith in
    gate_written s (suc e.inputs) c.loop-place.place (c.loop-place.place + 1) c.loop-place.gates c.gate_told.result
    (omega (arith, c.loop-place-test.true, e.few_gates)) (omega arith) (c.gate_told.ensures ∙ ap (read_gate s) i) c.loop-place.invariant

pub returns : goal.returns
returns c =
    let e = c.args.numbering.now in
    let s = told_by e c.args.bytes.now in
    let bits = bits_of_bytes c.args.bytes.now in
    let all : c.loop-place.place ≡ e.gates = omega (arith, c.loop-place-test.false, c.loop-place.auto.place-end) in
    let size : e.gates ≡ _ = sym (length-read_gates s (suc e.inputs) e.gates) in
    let nodes : e.inputs + 1 + e.gates ≡ suc e.inputs + e.gates = omega arith in
    same_network size
    (c.loop-place.invariant ∙ ap (λ (k : ℕ). read_gates s (suc e.inputs) k ++ replicate (7 - k) empty_gate) all
    ∙ ap (λ (k : ℕ). read_gates s (suc e.inputs) e.gates ++ replicate (7 - k) empty_gate) size)
    (same_code _ _ _ _ _
    (picked bits (numbered_by e) O (e.inputs + 1 + e.gates) c.output_is.result c.last_that_holds-node.result
    (λ j. next_O e j c.output_is.result c.output_is.ensures) c.last_that_holds-node.ensures.choice
    ∙ ap (λ (m : ℕ). pick m (λ j. s (O j))) nodes)
    c.from.ensures (c.bit.ensures ∙ ap (bit_of bits) c.output_complemented-complemented.ensures))
