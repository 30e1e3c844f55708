-- A code made of a node and a complement.
use Rattle.std.proofs.Common.{◌≡◌, ℕ, ◌%◌, Bool, true, false, cond, List, get_or, refl, ap, ◌∙◌, inl, inr, arith}
use Rattle.std.proofs.lemmas.Bool.{eq-eqb, ne_eqb, eqb-true, eqb-false, cases_Bool}
use Rattle.mig.specs.Networks.{Kind, node, complemented, value_at}
use Rattle.cnf.specs.Meaning.{code}

pub node-code : (j : ℕ) (x : Bool) → node (code j x) ≡ j
node-code j true = omega arith
node-code j false = omega arith

pub complemented-code : (j : ℕ) (x : Bool) → complemented (code j x) ≡ x
complemented-code j true = eq-eqb _ 1 (omega arith)
complemented-code j false = ne_eqb _ 1 (omega arith)

-- the code of a code's node and complement
pub code_again : (c : ℕ) → code (node c) (complemented c) ≡ c
code_again c =
    elim (cases_Bool (complemented c)) [
      | inl e ↦ let q = eqb-true (c % 2) 1 e in ap (code (node c)) e ∙ omega arith
      | inr e ↦ let q = eqb-false (c % 2) 1 e in ap (code (node c)) e ∙ omega arith
    ]

pub value-code : {V : Type 0} (k : Kind V) (vs : List V) (j : ℕ) (x : Bool)
    → value_at k vs (code j x) ≡ cond x (k.complement (get_or vs j k.constant)) (get_or vs j k.constant)
value-code k vs j x = rw (node-code j x, complemented-code j x) refl
