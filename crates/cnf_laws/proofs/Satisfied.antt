-- Clauses one after another: an assignment satisfies all of them exactly when it satisfies each.
use Rattle.std.proofs.Common.{◌≡◌, ℕ, zero, suc, ◌+◌, ◌≤◌, ◌<◌, true, List, [], ◌∷◌, ◌++◌, subst, inl, inr, arith}
use Rattle.std.proofs.lemmas.Bool.{cases_lt}
use Rattle.cnf.specs.Variables.{NamedClause, each}
use Rattle.cnf.specs.Meaning.{Assignment, some_holds, Satisfies}

pub satisfies_both : (s : Assignment) (xs ys : List NamedClause) → Satisfies s xs → Satisfies s ys → Satisfies s (xs ++ ys)
unfolding Satisfies
satisfies_both s [] ys h k = k
satisfies_both s (x ∷ xs) ys h k = (h.0, satisfies_both s xs ys h.1 k)

pub satisfies_left : (s : Assignment) (xs ys : List NamedClause) → Satisfies s (xs ++ ys) → Satisfies s xs
unfolding Satisfies
satisfies_left s [] ys h = tt
satisfies_left s (x ∷ xs) ys h = (h.0, satisfies_left s xs ys h.1)

pub satisfies_right : (s : Assignment) (xs ys : List NamedClause) → Satisfies s (xs ++ ys) → Satisfies s ys
unfolding Satisfies
satisfies_right s [] ys h = h
satisfies_right s (x ∷ xs) ys h = satisfies_right s xs ys h.1

pub satisfies_each : (s : Assignment) (a m : ℕ) (f : ℕ → List NamedClause)
    → ((k : ℕ) → a ≤ k → k < a + m → Satisfies s (f k)) → Satisfies s (each a m f)
unfolding each Satisfies
satisfies_each s a zero f h = tt
satisfies_each s a (suc m) f h =
    satisfies_both s (f a) (each (suc a) m f) (h a (omega arith) (omega arith))
    (satisfies_each s (suc a) m f (λ k l u. h k (omega arith) (omega arith)))

pub satisfies_at : (s : Assignment) (a m : ℕ) (f : ℕ → List NamedClause) → Satisfies s (each a m f)
    → (k : ℕ) → a ≤ k → k < a + m → Satisfies s (f k)
unfolding each
satisfies_at s a zero f h k l u = absurd (omega arith)
satisfies_at s a (suc m) f h k l u =
    elim (cases_lt a k) [
      | inl b ↦ satisfies_at s (suc a) m f (satisfies_right s (f a) (each (suc a) m f) h) k (omega arith) (omega arith)
      | inr b ↦ let e : a ≡ k = omega arith in subst (λ x. Satisfies s (f x)) e (satisfies_left s (f a) (each (suc a) m f) h)
    ]

pub satisfies_one : (s : Assignment) (c : NamedClause) → some_holds s c ≡ true → Satisfies s (c ∷ [])
unfolding Satisfies
satisfies_one s c h = (h, tt)

pub first_holds : (s : Assignment) (c : NamedClause) (cs : List NamedClause) → Satisfies s (c ∷ cs) → some_holds s c ≡ true
unfolding Satisfies
first_holds s c cs h = h.0

pub satisfies_rest : (s : Assignment) (c : NamedClause) (cs : List NamedClause) → Satisfies s (c ∷ cs) → Satisfies s cs
unfolding Satisfies
satisfies_rest s c cs h = h.1
