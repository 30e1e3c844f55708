-- One clause more in the words.
use Rattle.std.proofs.Common.{◌≡◌, ℕ, ◌+◌, ◌-◌, ◌<◌, ◌≤◌, ⊎_elim, List, [], ◌∷◌, ◌++◌, All, length, map, set, get_or, refl, sym, ap, ◌∙◌, subst, append-nil, arith, get_or-set_same, get_or-set_other}
use Rattle.std.proofs.lemmas.Bool.{cases_eq, cases_lt}
use Rattle.std.proofs.lemmas.List.{length-append, length-map, take_all, take-append-le, get_or_append_left, get_or-append_right, get_or_push}
use Rattle.std.proofs.lemmas.List.Concat.{flat_map-append}
use Rattle.cnf.specs.Numbers.{Clause}
use Rattle.sat_laws.specs.Formulas.{literal_at}
use Rattle.clause_words.specs.Codes.{IsSmall, code_of, codes_of}
use Rattle.clause_words.specs.Stored.{Stores, Fits}

-- the literals of the clauses and one more
pub codes_push : (xs : List Clause) (c : Clause) → codes_of (xs ++ (c ∷ [])) ≡ codes_of xs ++ map code_of c
codes_push xs c = flat_map-append (λ k. map code_of k) xs (c ∷ []) ∙ ap (λ ys. codes_of xs ++ ys) (append-nil (map code_of c))

module _ (ws ws′ ends : List ℕ) (k : ℕ) (xs : List Clause) (c : Clause) where
  -- the place where the clauses before end
  end_of_clauses : Stores ws ends k xs → get_or ends k 0 ≡ length (codes_of xs)
  end_of_clauses h =
      ap (λ (n : ℕ). get_or ends n 0) h.count ∙ h.bounds (length xs) (omega arith) ∙ ap (λ ys. length (codes_of ys)) (take_all (length xs) xs (omega arith))

  pub stored_more : k + 1 < length ends
      → ((j : ℕ) → j < get_or ends k 0 → literal_at ws′ j ≡ literal_at ws j)
      → (All IsSmall c → (j : ℕ) → j < length c → literal_at ws′ (get_or ends k 0 + j) ≡ get_or (map code_of c) j 0)
      → (w e : ℕ) → Fits w e (xs ++ (c ∷ []))
      → Stores ws ends k xs → Stores ws′ (set ends (k + 1) (get_or ends k 0 + length c)) (k + 1) (xs ++ (c ∷ []))
  stored_more room before written w e f h =
      let s = end_of_clauses h in
      let longer = length-append xs (c ∷ []) in
      let codes = codes_push xs c in
      let total : length (codes_of (xs ++ (c ∷ []))) ≡ length (codes_of xs) + length c =
      ap (λ ys. length ys) codes ∙ length-append (codes_of xs) (map code_of c) ∙ ap (λ n. length (codes_of xs) + n) (length-map c code_of) in
      let small : All IsSmall c = subst (All IsSmall) (get_or_push xs c c (length xs) refl) (f.small (length xs) c (omega arith)) in
      record {
        count = omega (arith, h.count);
        bounds = λ b l. ⊎_elim
            (λ (q : b ≡ k + 1).
            ap (λ n. get_or (set ends (k + 1) (get_or ends k 0 + length c)) n 0) q
            ∙ get_or-set_same ends (k + 1) (get_or ends k 0 + length c) 0 room
            ∙ ap (λ n. n + length c) s ∙ sym total
            ∙ ap (λ ys. length (codes_of ys)) (sym (take_all b (xs ++ (c ∷ [])) (omega (arith, h.count)))))
            (λ (ne : b ≡ k + 1 → ⊥).
            get_or-set_other ends (k + 1) b (get_or ends k 0 + length c) 0 ne
            ∙ h.bounds b (omega (arith, h.count))
            ∙ ap (λ ys. length (codes_of ys)) (sym (take-append-le b xs (c ∷ []) (omega (arith, h.count)))))
            (cases_eq b (k + 1));
        literals = λ j l. ⊎_elim
            (λ (g : j < length (codes_of xs)).
            before j (omega arith) ∙ h.literals j g ∙ sym (get_or_append_left (codes_of xs) (map code_of c) 0 j g) ∙ ap (λ ys. get_or ys j 0) (sym codes))
            (λ (g : length (codes_of xs) ≤ j).
            let place : get_or ends k 0 + (j - length (codes_of xs)) ≡ j = omega arith in
            ap (λ n. literal_at ws′ n) (sym place)
            ∙ written small (j - length (codes_of xs)) (omega arith)
            ∙ sym (get_or-append_right (codes_of xs) (map code_of c) (length (codes_of xs)) j 0 refl g)
            ∙ ap (λ ys. get_or ys j 0) (sym codes))
            (cases_lt j (length (codes_of xs)));
      }
