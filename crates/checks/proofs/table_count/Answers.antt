use Rattle.std.proofs.Common.{rules, ◌≡◌, ℕ, ◌*◌, ◌%◌, ◌^◌, ◌≤◌, Ok, ap, ◌∙◌, arith, pow_mono}
use Rattle.std.proofs.lemmas.Nat.{one_shl}
use Rattle.std.proofs.lemmas.Bool.{le-ltb}
use Rattle.checks.proofs.table_count.Goals as goal

-- at most sixteen rows
few : (n : ℕ) → n ≤ 4 → (1 * 2 ^ n) % 4294967296 ≤ 16
few n h = rw (one_shl n 32 (omega arith)) (pow_mono {j = 4} h)

pub overflow_shl-result : goal.overflow_shl-result
overflow_shl-result c = let few_inputs : c.args.inputs ≤ 4 = search rules in omega (arith, few c.args.inputs few_inputs)

pub returns : goal.returns
returns c =
    let n = c.args.inputs in
    let few_inputs : n ≤ 4 = search rules in
    let f = few n few_inputs in
    let e : (1 * 2 ^ ((1 * 2 ^ n) % 4294967296)) % 4294967296 ≡ 2 ^ (2 ^ n) =
    one_shl ((1 * 2 ^ n) % 4294967296) 32 (omega arith) ∙ ap (λ (m : ℕ). 2 ^ m) (one_shl n 32 (omega arith)) in
    rw (le-ltb 4 n few_inputs) (ap Ok e)
