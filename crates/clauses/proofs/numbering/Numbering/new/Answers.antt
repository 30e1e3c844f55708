use Rattle.std.proofs.Common.{◌≡◌, ◌≤◌, ℕ, suc, ◌+◌, ◌-◌, ◌*◌, ◌%◌, ◌^◌, true, refl, ap, ◌∙◌, arith, ap₂, pow_mono}
use Rattle.std.proofs.Math.Nat.{mod-eq_of_lt}
use Rattle.std.proofs.lemmas.Nat.{mul-le}
use Rattle.mig.specs.Questions.{Valid}
use Rattle.cnf.specs.Numbers.{total, first_N}
use Rattle.clauses.proofs.numbering.Numbering.new.Goals as goal

few_rows : (n : ℕ) → n ≤ 4 → 2 ^ n ≤ 16
few_rows n h = pow_mono h

shifted : (n : ℕ) → n ≤ 4 → 1 * 2 ^ n % 256 ≡ 2 ^ n
shifted n h = let l = few_rows n h in let e : 1 * 2 ^ n ≡ 2 ^ n = omega arith in ap (λ (x : ℕ). x % 256) e ∙ mod-eq_of_lt (omega arith)

triples : (n r x : ℕ) → x ≡ total (suc n) (n + 1 + r - suc n) (λ i. 3 * i) → 1 + x ≡ first_N n r
triples n r x h = let e : n + 1 + r - suc n ≡ r = omega arith in ap (λ (y : ℕ). 1 + y) h ∙ ap (λ (m : ℕ). 1 + total (suc n) m (λ i. 3 * i)) e

pub invariant_of-result : goal.invariant_of-result
invariant_of-result c =
    let n = c.args.question.now.inputs in
    let r = c.args.gates in
    let v : Valid c.args.question.now = c.in_ok-check_question.ensures.accepted_exactly_when_valid.0 (refl {a = true}) in
    let rows = shifted n v.inputs in
    let few = few_rows n v.inputs in
    let first = triples n r c.triples_before-complements.result c.triples_before-complements.ensures.value in
    let values : c.from-2.result * c.from-3.result ≡ r * 2 ^ n = ap₂ (λ (x y : ℕ). x * y) c.from-2.ensures (c.from-3.ensures ∙ rows) in
    let values′ : c.from-4.result * c.from-5.result ≡ r * 2 ^ n = ap₂ (λ (x y : ℕ). x * y) c.from-4.ensures (c.from-5.ensures ∙ rows) in
    let levels : c.from-7.result * (c.from-8.result + 1) ≡ r * suc c.args.question.now.limits.depth = ap₂ (λ (x y : ℕ). x * y) c.from-7.ensures (omega (arith, c.from-8.ensures)) in
    record {
      few_inputs = v.inputs;
      few_gates = omega (arith, c.if-gates-gt7.false);
      row_for_each_input = rows;
      few_rows = omega (arith, rows, few);
      shallow = v.depth;
      some_fan_out = v.some_fan_out;
      light = v.fan_out;
      complements_first = first;
      fan_in_values_first = omega (arith, first, c.from.ensures);
      gate_values_first = omega (arith, first, c.from.ensures, values);
      outputs_first = omega (arith, first, c.from.ensures, values, values′);
      levels_first = omega (arith, first, c.from.ensures, values, values′, c.from-6.ensures);
      counters_first = omega (arith, first, c.from.ensures, values, values′, c.from-6.ensures, levels);
      small = omega (
        arith,
        c.triples_before-complements.ensures.bound,
        c.from.ensures,
        values,
        values′,
        c.from-6.ensures,
        levels,
        mul-le r (2 ^ n) 7 16 (omega (arith, c.if-gates-gt7.false)) few,
        mul-le r (suc c.args.question.now.limits.depth) 7 8 (omega (arith, c.if-gates-gt7.false)) (omega (arith, v.depth)),
        v.inputs,
        c.if-gates-gt7.false,
      );
    }
