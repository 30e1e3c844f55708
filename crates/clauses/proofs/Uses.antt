-- The uses of a gate, one after another.
use Rattle.std.proofs.Common.{◌≡◌, ℕ, zero, suc, ◌+◌, ◌-◌, ◌*◌, ◌/◌, ◌%◌, ◌<◌, List, [], ◌∷◌, length, get_or, refl, ◌∙◌, ap₂, arith}
use Rattle.std.proofs.lemmas.List.{get_or_append_left, get_or_push, length-append}
use Rattle.cnf.specs.Variables.{Var, S, O, Q, each, uses_of}
use Rattle.cnf_laws.proofs.Each.{length_uses}

-- each of m gates from a on uses the gate j three times
abbrev fan_ins_from : ℕ → ℕ → ℕ → List Var
fan_ins_from j a m = each a m (λ i. S i 1 j ∷ S i 2 j ∷ S i 3 j ∷ [])

same_use : (j a b x y : ℕ) → a ≡ b → x ≡ y → S a x j ≡ S b y j
same_use j a b x y e h = ap₂ (λ (k z : ℕ). S k z j) e h

-- the use p, counted from 0
fan_in_use : (j a m p : ℕ) → p < 3 * m → get_or (fan_ins_from j a m) p Q ≡ S (a + p / 3) (p % 3 + 1) j
unfolding each
fan_in_use j a zero p h = absurd (omega arith)
fan_in_use j a (suc m) zero h = same_use j a (a + 0 / 3) 1 (0 % 3 + 1) (omega arith) (omega arith)
fan_in_use j a (suc m) (suc zero) h = same_use j a (a + 1 / 3) 2 (1 % 3 + 1) (omega arith) (omega arith)
fan_in_use j a (suc m) (suc (suc zero)) h = same_use j a (a + 2 / 3) 3 (2 % 3 + 1) (omega arith) (omega arith)
fan_in_use j a (suc m) (suc (suc (suc p))) h =
    fan_in_use j (suc a) m p (omega arith)
    ∙ same_use j (suc a + p / 3) (a + suc (suc (suc p)) / 3) (p % 3 + 1) (suc (suc (suc p)) % 3 + 1) (omega arith) (omega arith)

-- the uses before the last are fan-ins of later gates
pub use_of_fan_in : (n r j p : ℕ) → p + 1 < length (uses_of n r j) → get_or (uses_of n r j) p Q ≡ S (j + 1 + p / 3) (p % 3 + 1) j
use_of_fan_in n r j p h =
    let m = n + r - j in
    let l = length_uses n r j in
    let k = length-append (fan_ins_from j (suc j) m) (O j ∷ []) in
    get_or_append_left (fan_ins_from j (suc j) m) (O j ∷ []) Q p (omega arith)
    ∙ fan_in_use j (suc j) m p (omega arith)
    ∙ same_use j (suc j + p / 3) (j + 1 + p / 3) (p % 3 + 1) (p % 3 + 1) (omega arith) refl

-- the last use is the output
pub use_of_output : (n r j p : ℕ) → p + 1 ≡ length (uses_of n r j) → get_or (uses_of n r j) p Q ≡ O j
use_of_output n r j p h =
    let k = length-append (fan_ins_from j (suc j) (n + r - j)) (O j ∷ []) in
    get_or_push (fan_ins_from j (suc j) (n + r - j)) (O j) Q p (omega arith)
