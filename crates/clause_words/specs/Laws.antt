-- The laws of keeping clauses in words.
use Rattle.std.specs.Prelude.{ℕ, List, [], ◌++◌, All, length, map, refl}
use Rattle.std.proofs.Common.{sym, ap, ◌∙◌, subst, append_assoc, append-nil, arith}
use Rattle.std.proofs.lemmas.List.{length-append, get_or_append_left}
use Rattle.std.proofs.lemmas.List.Concat.{flat_map-append}
use Rattle.cnf.specs.Numbers.{Clause}
use Rattle.clause_words.specs.Codes.{IsSmall, code_of, codes_of}
use Rattle.clause_words.specs.declared.words.ClauseWords.{ClauseWords}
use Rattle.clause_words.specs.Stored.{Stores, Fits, StoresMore}

-- fewer clauses have room too
pub fits_front : (w e : ℕ) (xs ys : List Clause) → Fits w e (xs ++ ys) → Fits w e xs
fits_front w e xs ys h =
    let l = length-append xs ys in
    let k = ap length (flat_map-append (λ c. map code_of c) xs ys) ∙ length-append (codes_of xs) (codes_of ys) in
    record { clauses = omega (arith, h.clauses); literals = omega (arith, h.literals); few = omega (arith, h.few); small = λ k′ d lt. subst (All IsSmall) (get_or_append_left xs ys d k′ lt) (h.small k′ d (omega arith)) }

pub stores_nothing : (s : ClauseWords) → StoresMore s [] s
stores_nothing s = (refl, refl, refl, refl, λ xs h f. subst (Stores s.words.now s.ends.now s.clauses) (sym (append-nil xs)) h)

pub stores_more : (s t u : ClauseWords) (xs ys : List Clause) → StoresMore s xs t → StoresMore t ys u → StoresMore s (xs ++ ys) u
stores_more s t u xs ys h k = (
  k.0 ∙ h.0,
  k.1 ∙ h.1,
  k.2 ∙ h.2,
  k.3 ∙ h.3,
  λ zs a f.
      let e = append_assoc zs xs ys in
      let g : Fits (length s.words.now) (length s.ends.now) ((zs ++ xs) ++ ys) = subst (Fits (length s.words.now) (length s.ends.now)) (sym e) f in
      let b = h.4 zs a (fits_front _ _ (zs ++ xs) ys g) in
      let g′ : Fits (length t.words.now) (length t.ends.now) ((zs ++ xs) ++ ys) =
      subst (λ n. Fits (length t.words.now) n ((zs ++ xs) ++ ys)) (sym h.3)
      (subst (λ n. Fits n (length s.ends.now) ((zs ++ xs) ++ ys)) (sym h.2) g) in
      subst (Stores u.words.now u.ends.now u.clauses) e (k.4 (zs ++ xs) b g′),
)
