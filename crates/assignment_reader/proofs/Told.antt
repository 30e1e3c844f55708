-- The read-back, part by part.
use Rattle.std.proofs.Common.{◌≡◌, ℕ, zero, suc, ◌+◌, ◌-◌, ◌*◌, ◌<◌, Bool, true, false, cond, List, [], ◌∷◌, ◌++◌, set, replicate, sym, refl, ap, ap₂, ◌∙◌, append_assoc, arith}
use mir.Val.{bool_byte}
use Rattle.std.proofs.lemmas.List.{set_at}
use Rattle.mig.specs.declared.network.Gate.{Gate}
use Rattle.mig.specs.Networks.{empty_gate}
use Rattle.cnf.specs.Variables.{Var, S, O}
use Rattle.cnf.specs.Meaning.{Assignment, pick, code, read_gate, read_gates}
use Rattle.cnf.specs.Numbers.{number, bit_of}
use Rattle.cnf_laws.proofs.ReadBack.{length-read_gates}
use Rattle.clauses.specs.declared.numbering.Numbering.{Numbering}
use Rattle.clauses.specs.Numbering.{numbered_by}

-- the variables S of a fan-in have numbers in a row
pub next_S : (e : Numbering) (i b j x : ℕ) → x ≡ numbered_by e (S i b 0) → x + j ≡ numbered_by e (S i b j)
unfolding number
next_S e i b j x h = omega (arith, h)

-- the variables O have numbers in a row
pub next_O : (e : Numbering) (j x : ℕ) → x ≡ numbered_by e (O 0) → x + j ≡ numbered_by e (O j)
unfolding number
next_O e j x h = omega (arith, h)

-- a choice among variables with numbers in a row
pub picked : (bits : List Bool) (g : Var → ℕ) (v : ℕ → Var) (m x y : ℕ) → ((j : ℕ) → x + j ≡ g (v j)) → y ≡ pick m (λ j. bit_of bits (x + j))
    → y ≡ pick m (λ j. bit_of bits (g (v j)))
picked bits g v m x y h e = e ∙ (λ i. pick m (λ j. bit_of bits (h j i)))

byte_of_bit : (b : Bool) → bool_byte b ≡ cond b 1 0
byte_of_bit true = refl
byte_of_bit false = refl

-- a code of a node and a bit
pub same_code : (x y j : ℕ) (a b : Bool) → x ≡ j → y ≡ bool_byte a → a ≡ b → 2 * x + y ≡ code j b
same_code x y j a b e h k = ap₂ (λ (d z : ℕ). 2 * d + z) e (h ∙ byte_of_bit a ∙ ap (λ d. cond d 1 0) k)

-- one gate more behind
gates_push : (s : Assignment) (i r : ℕ) → read_gates s i (suc r) ≡ read_gates s i r ++ (read_gate s (i + r) ∷ [])
unfolding read_gates
gates_push s i zero = ap (λ (k : ℕ). read_gate s k ∷ []) (omega arith)
gates_push s i (suc r) =
    ap (λ gs. read_gate s i ∷ gs) (gates_push s (suc i) r)
    ∙ ap (λ (k : ℕ). read_gate s i ∷ (read_gates s (suc i) r ++ (read_gate s k ∷ []))) (omega arith)

-- the next gate written into the first empty place
pub gate_written : (s : Assignment) (i p q : ℕ) (gs : List Gate) (g : Gate) → p < 7 → q ≡ p + 1 → g ≡ read_gate s (i + p)
    → gs ≡ read_gates s i p ++ replicate (7 - p) empty_gate
    → set gs p g ≡ read_gates s i q ++ replicate (7 - q) empty_gate
gate_written s i p q gs g l e h k =
    let rest = replicate (7 - suc p) empty_gate in
    let left : 7 - p ≡ suc (7 - suc p) = omega arith in
    let next : suc p ≡ q = omega arith in
    ap (λ xs. set xs p g) (k ∙ ap (λ m. read_gates s i p ++ replicate m empty_gate) left)
    ∙ set_at (read_gates s i p) empty_gate rest g p (length-read_gates s i p)
    ∙ ap (λ x. read_gates s i p ++ (x ∷ rest)) h
    ∙ sym (append_assoc (read_gates s i p) (read_gate s (i + p) ∷ []) rest)
    ∙ ap (λ xs. xs ++ rest) (sym (gates_push s i p))
    ∙ ap (λ (m : ℕ). read_gates s i m ++ replicate (7 - m) empty_gate) next
