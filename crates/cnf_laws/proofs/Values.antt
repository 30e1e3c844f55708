-- What the clauses of one fan-in, one gate and one output say.
use Rattle.std.proofs.Common.{◌≡◌, ℕ, Bool, true, false, cond, not, arith}
use Rattle.mig.specs.Networks.{majority}
use Rattle.cnf.specs.Variables.{S, N, A, B, O, Q}
use Rattle.cnf.specs.Clauses.{fan_in_given, fan_in_gate, gate_majority, output_given, output_gate}
use Rattle.cnf.specs.Meaning.{Assignment, Satisfies}

-- a bit, complemented or not
abbrev pub turn : Bool → Bool → Bool
turn n b = cond n (not b) b

module _ (s : Assignment) (i c j t : ℕ) where
  pub fan_in_says : (b v : Bool) → Satisfies s (cond b (fan_in_given v i c j t) (fan_in_gate i c j t)) → s (S i c j) ≡ true
      → s (A i c t) ≡ turn (s (N i c)) (cond b v (s (B j t)))
  unfolding Satisfies
  fan_in_says true true h e = grind arith
  fan_in_says true false h e = grind arith
  fan_in_says false v h e = grind arith

  pub fan_in_met : (b v : Bool) → (s (S i c j) ≡ true → s (A i c t) ≡ turn (s (N i c)) (cond b v (s (B j t))))
      → Satisfies s (cond b (fan_in_given v i c j t) (fan_in_gate i c j t))
  unfolding Satisfies
  fan_in_met true true h = (grind arith, (grind arith, tt))
  fan_in_met true false h = (grind arith, (grind arith, tt))
  fan_in_met false v h = (grind arith, (grind arith, (grind arith, (grind arith, tt))))

module _ (s : Assignment) (i t : ℕ) where
  pub gate_says : Satisfies s (gate_majority i t) → majority (s (A i 1 t)) (s (A i 2 t)) (s (A i 3 t)) ≡ s (B i t)
  unfolding Satisfies
  gate_says h = grind arith

  pub gate_met : majority (s (A i 1 t)) (s (A i 2 t)) (s (A i 3 t)) ≡ s (B i t) → Satisfies s (gate_majority i t)
  unfolding Satisfies
  gate_met h = (grind arith, (grind arith, (grind arith, (grind arith, (grind arith, (grind arith, tt))))))

module _ (s : Assignment) (j t : ℕ) where
  pub output_says : (b v f : Bool) → Satisfies s (cond b (output_given v f j) (output_gate f j t)) → s (O j) ≡ true
      → turn (s Q) (cond b v (s (B j t))) ≡ f
  unfolding Satisfies
  output_says true true true h e = grind arith
  output_says true true false h e = grind arith
  output_says true false true h e = grind arith
  output_says true false false h e = grind arith
  output_says false v true h e = grind arith
  output_says false v false h e = grind arith

  pub output_met : (b v f : Bool) → (s (O j) ≡ true → turn (s Q) (cond b v (s (B j t))) ≡ f)
      → Satisfies s (cond b (output_given v f j) (output_gate f j t))
  unfolding Satisfies
  output_met true true true h = (grind arith, tt)
  output_met true true false h = (grind arith, tt)
  output_met true false true h = (grind arith, tt)
  output_met true false false h = (grind arith, tt)
  output_met false v true h = (grind arith, (grind arith, tt))
  output_met false v false h = (grind arith, (grind arith, tt))
