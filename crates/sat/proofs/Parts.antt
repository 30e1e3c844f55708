-- The parts of the words, and what the values in them tell.
use Rattle.std.proofs.Common.{◌≡◌, ℕ, ◌+◌, ◌%◌, ◌/◌, ◌≤◌, ◌<◌, ◌⊎◌, inl, inr, ⊎_elim, List, ◌++◌, length, get_or, drop, sym, ap, ◌∙◌, subst, drop-drop, arith}
use Rattle.std.proofs.lemmas.Bool.{cases_eq}
use Rattle.std.proofs.lemmas.List.{get_or-append-add, get_or_append_left}
use Rattle.sat_laws.specs.Formulas.{bit, Assignment, literal_at, ClausesHold, WellFormed}

-- what is left after six cuts
pub cut_six : {r₁ r₂ r₃ r₄ r₅ r₆ : List ℕ} (words : List ℕ) (t n q p : ℕ) → r₁ ≡ drop t words → r₂ ≡ drop n r₁ → r₃ ≡ drop n r₂ → r₄ ≡ drop n r₃
    → r₅ ≡ drop n r₄ → r₆ ≡ drop q r₅ → t + n + n + n + n + q ≡ p → r₆ ≡ drop p words
cut_six w t n q p e₁ e₂ e₃ e₄ e₅ e₆ e =
    e₆ ∙ ap (drop q) (e₅ ∙ ap (drop n) (e₄ ∙ ap (drop n) (e₃ ∙ ap (drop n) (e₂ ∙ ap (drop n) e₁ ∙ drop-drop n t w) ∙ drop-drop n (t + n) w) ∙ drop-drop n (t + n + n) w)
    ∙ drop-drop n (t + n + n + n) w) ∙ drop-drop q (t + n + n + n + n) w ∙ ap (λ n. drop n w) e

-- a model of clauses with variables below n, and an assignment that agrees with it there
pub hold_agreeing : (m m′ : Assignment) (ws ends : List ℕ) (k n : ℕ) → WellFormed ws ends k n → ((v : ℕ) → v < n → m v ≡ m′ v)
    → ClausesHold m ws ends k → ClausesHold m′ ws ends k
hold_agreeing m m′ ws ends k n sh same hd c h =
    let x = hd c h in
    let low : x.0 < get_or ends k 0 = omega (arith, x.2, sh.rising (c + 1) k (omega arith) (omega arith)) in
    (x.0, x.1, x.2, subst (λ b. bit b ≡ literal_at ws x.0 % 2) (same (literal_at ws x.0 / 2) (sh.small x.0 low)) x.3)

-- the value of a variable, behind the table
pub value_in : (es vs rest : List ℕ) (place v : ℕ) → length es ≡ place → v < length vs → get_or (es ++ (vs ++ rest)) (place + v) 0 ≡ get_or vs v 0
value_in es vs rest place v e h =
    ap (λ p. get_or (es ++ (vs ++ rest)) (p + v) 0) (sym e) ∙ get_or-append-add es (vs ++ rest) v 0 ∙ get_or_append_left vs rest 0 v h

-- a value that is not 0, and at most 2
pub one_or_two : (x y : ℕ) → x ≡ y → 0 < y → y ≤ 2 → (x ≡ 1) ⊎ (x ≡ 2)
one_or_two x y e a b = ⊎_elim (λ (q : x ≡ 1). inl q) (λ (n : x ≡ 1 → ⊥). inr (omega arith)) (cases_eq x 1)
