use Rattle.std.proofs.Common.{rules, ◌≡◌, ℕ, zero, suc, ◌+◌, ◌-◌, ◌*◌, ◌/◌, ◌%◌, ◌^◌, ◌≤◌, refl, arith}
use Rattle.mig_laws.proofs.Tables.{parity}
use Rattle.class_laws.specs.Ways.{source, carried_code}
use Rattle.class_laws.proofs.Carried.{carried_low, carried_high}
use Rattle.carrying.proofs.carried.carried_code.Goals as goal
use Rattle.carrying.proofs.carried.carried_code.Goals.{in_default-via-then-node-lt1, in_default-via-else-node-lt1+else-node-lt5}

input : (k m j s : ℕ) → 1 ≤ j → j ≤ 4 → s ≡ source k (j - 1) → 2 * (s + 1) + m / 2 ^ (j - 1) % 2 ≡ carried_code k m j
input k m zero s b l e = absurd (omega arith)
input k m (suc a) s b l e =
    let place : suc a - 1 ≡ a = omega arith in
    rw (e, place) (omega (arith, carried_low k m a (omega arith), parity (m / 2 ^ a % 2) (omega arith)))

other : (k m j : ℕ) → (1 ≤ j → 5 ≤ j) → 2 * j ≡ carried_code k m j
unfolding carried_code
other k m zero h = refl
other k m (suc a) h = let high = h (omega arith) in omega (arith, carried_high k m a (omega arith))

pub returns-in-1-to-4 : goal.returns-in-1-to-4
returns-in-1-to-4 c =
    let e : c.source.result ≡ source c.args.way.order (c.args.node - 1) = search rules in
    omega (arith, input c.args.way.order c.args.way.mask c.args.node c.source.result (omega arith) (omega arith) e)

pub returns-in_default : goal.returns-in_default
returns-in_default c = other c.args.way.order c.args.way.mask c.args.node
    (λ h. elim c.in_default.branch [ in_default-via-then-node-lt1 w ↦ absurd (omega arith) | in_default-via-else-node-lt1+else-node-lt5 w ↦ omega arith ])
