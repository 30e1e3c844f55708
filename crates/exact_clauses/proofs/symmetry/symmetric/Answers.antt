use Rattle.std.proofs.Common.{◌≡◌, ℕ, zero, suc, ◌+◌, ◌^◌, ◌<◌, ◌≤◌, Bool, true, false, not, ap₂, ◌&&◌, refl, sym, ap, ◌∙◌, inl, inr, arith, pow_mono}
use Rattle.std.specs.Bool.{beq}
use Rattle.std.proofs.lemmas.Bool.{cases_lt}
use Rattle.std.proofs.lemmas.Nat.{one_shl}
use Rattle.mig.specs.Rules.{all_below}
use Rattle.mig.specs.Tables.{bit_at}
use Rattle.mig_laws.proofs.Tables.{table_below}
use Rattle.symmetry_laws.specs.Inputs.{exchange, exchanged_row}
use Rattle.exact_clauses.proofs.symmetry.symmetric.Goals as goal

-- one test that fails fails all
all_below-one : (k i : ℕ) (p : ℕ → Bool) → i < k → p i ≡ false → all_below k p ≡ false
unfolding all_below
all_below-one zero i p l e = absurd (omega arith)
all_below-one (suc k) i p l e =
    elim (cases_lt i k) [
      | inl m ↦ rw (all_below-one k i p m e) (last (p k))
      | inr m ↦ let s : k ≡ i = omega arith in rw (ap p s ∙ e) refl
    ]
  where
    last : (b : Bool) → (b && false) ≡ false
    last true = refl
    last false = refl

not_false : (b : Bool) → not b ≡ false → b ≡ true
not_false true e = refl
not_false false e = sym e

not_true : (b : Bool) → not b ≡ true → b ≡ false
not_true true e = sym e
not_true false e = refl

pub loop-row-init : goal.loop-row-init
unfolding all_below
loop-row-init c = refl

pub bit-requires : goal.bit-requires
bit-requires c =
    let small = table_below c.args.inputs 0 (λ x. bit_at c.loop-row.row (exchange c.args.first c.args.second x)) in
    let few : 2 ^ c.args.inputs ≤ 16 = pow_mono {j = 4} c.requires.few in
    omega (arith, c.exchanged_row.ensures, small, few)

pub bit-requires-in-loop-row : goal.bit-requires-in-loop-row
bit-requires-in-loop-row c =
    let few : 2 ^ c.args.inputs ≤ 16 = pow_mono {j = 4} c.requires.few in
    omega (arith, c.loop-row-test.true, one_shl c.args.inputs 32 (omega (arith, c.requires.few)), few)

pub returns-then-bit : goal.returns-then-bit
returns-then-bit c =
    let test = λ (t : ℕ). beq (bit_at c.args.table (exchanged_row c.args.inputs c.args.first c.args.second t)) (bit_at c.args.table t) in
    let tested : test c.loop-row.row ≡ beq c.bit.result c.bit-in-loop-row.result =
    sym (ap₂ beq (c.bit.ensures ∙ ap (bit_at c.args.table) c.exchanged_row.ensures) c.bit-in-loop-row.ensures) in
    sym (all_below-one (2 ^ c.args.inputs) c.loop-row.row test (omega (arith, c.loop-row-test.true, one_shl c.args.inputs 32 (omega (arith, c.requires.few))))
    (tested ∙ not_true (beq c.bit.result c.bit-in-loop-row.result) c.if-bit.true))

pub loop-row-preserved : goal.loop-row-preserved
unfolding all_below
loop-row-preserved c =
    let k = c.loop-row.row in
    let test = λ (t : ℕ). beq (bit_at c.args.table (exchanged_row c.args.inputs c.args.first c.args.second t)) (bit_at c.args.table t) in
    let tested : test k ≡ beq c.bit.result c.bit-in-loop-row.result =
    sym (ap₂ beq (c.bit.ensures ∙ ap (bit_at c.args.table) c.exchanged_row.ensures) c.bit-in-loop-row.ensures) in
    let next : k + 1 ≡ suc k = omega arith in
    ap (λ (x : ℕ). all_below x test) next
    ∙ ap₂ (λ (x y : Bool). x && y) (tested ∙ not_false (beq c.bit.result c.bit-in-loop-row.result) c.if-bit.false) c.loop-row.invariant
