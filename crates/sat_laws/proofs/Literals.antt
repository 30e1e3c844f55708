-- Literals, two in a word.
use Rattle.std.proofs.Common.{◌≡◌, ◌≢◌, ℕ, ◌+◌, ◌*◌, ◌/◌, ◌%◌, ◌<◌, cond, eqb, ⊎_elim, List, length, get_or, sym, ap, ◌∙◌, arith, length-set, get_or-set_same, get_or-set_other}
use Rattle.std.proofs.lemmas.Bool.{cases_eq}
use Rattle.std.proofs.lemmas.Bool.Decides.{nat_tests}
use Rattle.sat_laws.specs.Formulas.{literal_at, with_literal}

pub length_with_literal : (ws : List ℕ) (j l : ℕ) → length (with_literal ws j l) ≡ length ws
unfolding with_literal
length_with_literal ws j l = length-set ws _ _

-- the half of a word that the place i means
abbrev half : ℕ → ℕ → ℕ
half i w = cond (eqb (i % 2) 0) (w % 65536) (w / 65536)

-- of a word's halves the one written is the literal
written : (j w l : ℕ) → l < 65536 → (w′ : ℕ) → w′ ≡ cond (eqb (j % 2) 0) (w / 65536 * 65536 + l) (w % 65536 + 65536 * l)
    → cond (eqb (j % 2) 0) (w′ % 65536) (w′ / 65536) ≡ l
written j w l h w′ e = grind (arith, nat_tests)

-- and the other one is as it was
other_half : (i j w l : ℕ) → l < 65536 → i / 2 ≡ j / 2 → i ≢ j → (w′ : ℕ)
    → w′ ≡ cond (eqb (j % 2) 0) (w / 65536 * 65536 + l) (w % 65536 + 65536 * l)
    → cond (eqb (i % 2) 0) (w′ % 65536) (w′ / 65536) ≡ cond (eqb (i % 2) 0) (w % 65536) (w / 65536)
other_half i j w l h q ne w′ e = grind (arith, nat_tests)

pub literal_same : (ws : List ℕ) (j l : ℕ) → l < 65536 → j / 2 < length ws → literal_at (with_literal ws j l) j ≡ l
unfolding literal_at with_literal
literal_same ws j l h b = written j (get_or ws (j / 2) 0) l h _ (get_or-set_same ws (j / 2) _ 0 b)

pub literal_other : (ws : List ℕ) (i j l : ℕ) → l < 65536 → j / 2 < length ws → i ≢ j → literal_at (with_literal ws j l) i ≡ literal_at ws i
unfolding literal_at with_literal
literal_other ws i j l h b ne = ⊎_elim
    (λ (q : i / 2 ≡ j / 2). other_half i j (get_or ws (j / 2) 0) l h q ne _ (ap (λ y. get_or (with_literal ws j l) y 0) q ∙ get_or-set_same ws (j / 2) _ 0 b)
    ∙ ap (λ y. half i (get_or ws y 0)) (sym q))
    (λ (d : i / 2 ≡ j / 2 → ⊥). ap (half i) (get_or-set_other ws (j / 2) (i / 2) _ 0 d))
    (cases_eq (i / 2) (j / 2))
