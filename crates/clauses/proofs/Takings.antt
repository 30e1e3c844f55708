-- What a sink has taken, one part of the clauses after another.
use Rattle.std.proofs.Common.{◌≡◌, ℕ, suc, ◌+◌, List, [], ◌++◌, sym, ap, ◌∙◌, subst}
use Rattle.cnf.specs.Variables.{Var, NamedClause, each}
use Rattle.cnf.specs.Numbers.{Clause, numbered}
use Rattle.cnf_laws.proofs.Each.{each_push, numbered_append}

module _ {S : Type 0} (T : S → List Clause → S → Type 0) (g : Var → ℕ) where
  -- no part yet
  pub took_none : ((s : S) → T s [] s) → (a m : ℕ) (f : ℕ → List NamedClause) (s : S) → m ≡ 0 → T s (numbered g (each a m f)) s
  unfolding numbered each
  took_none nothing a m f s e = subst (λ k. T s (numbered g (each a k f)) s) (sym e) (nothing s)

  -- one part more
  pub took_part : ((s t u : S) (xs ys : List Clause) → T s xs t → T t ys u → T s (xs ++ ys) u)
      → (a m m′ x : ℕ) (f : ℕ → List NamedClause) (s t u : S) → a + m ≡ x → m′ ≡ suc m
      → T s (numbered g (each a m f)) t → T t (numbered g (f x)) u → T s (numbered g (each a m′ f)) u
  took_part more a m m′ x f s t u e e′ h k =
      subst (λ cs. T s cs u)
      (sym (ap (λ (z : ℕ). numbered g (each a z f)) e′ ∙ ap (numbered g) (each_push a m f) ∙ ap (λ (z : ℕ). numbered g (each a m f ++ f z)) e
      ∙ numbered_append g (each a m f) (f x)))
      (more s t u (numbered g (each a m f)) (numbered g (f x)) h k)

  -- two parts one behind the other
  pub took_both : ((s t u : S) (xs ys : List Clause) → T s xs t → T t ys u → T s (xs ++ ys) u)
      → (xs ys : List NamedClause) (s t u : S) → T s (numbered g xs) t → T t (numbered g ys) u → T s (numbered g (xs ++ ys)) u
  took_both more xs ys s t u h k =
      subst (λ cs. T s cs u) (sym (numbered_append g xs ys)) (more s t u (numbered g xs) (numbered g ys) h k)
