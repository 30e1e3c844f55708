use Rattle.std.proofs.Common.{◌≡◌, ℕ, ◌+◌, ◌*◌, ◌/◌, ◌<◌, ◌≤◌, ⊎_elim, All, length, List, map, get_or, false, sym, ap, ◌∙◌, arith}
use Rattle.std.proofs.lemmas.Bool.{cases_eq}
use Rattle.std.proofs.lemmas.List.{get_or-map}
use Rattle.std.proofs.lemmas.List.Elements.{All-get_or}
use Rattle.cnf.specs.declared.literal.Literal.{Literal}
use Rattle.sat_laws.specs.Formulas.{literal_at, with_literal}
use Rattle.sat_laws.proofs.Literals.{length_with_literal, literal_same, literal_other}
use Rattle.clause_words.specs.Codes.{code_of, IsSmall}
use Rattle.clause_words.proofs.words.write_literals.Goals as goal

-- with one literal more
one_more : (ws ws′ old : List ℕ) (s i l : ℕ) (c : List Literal) (d : Literal)
    → i < length c → s + length c ≤ 2 * length old → l < 65536
    → (IsSmall (get_or c i d) → l ≡ code_of (get_or c i d)) → ws′ ≡ with_literal ws (s + i) l
    → (length ws ≡ length old)
    → (All IsSmall c → (j : ℕ) → j < i → literal_at ws (s + j) ≡ get_or (map code_of c) j 0)
    → ((j : ℕ) → j < s → literal_at ws j ≡ literal_at old j)
    → (length ws′ ≡ length old)
    × (All IsSmall c → (j : ℕ) → j < i + 1 → literal_at ws′ (s + j) ≡ get_or (map code_of c) j 0)
    × ((j : ℕ) → j < s → literal_at ws′ j ≡ literal_at old j)
one_more ws ws′ old s i l c d lt room half code e len before rest =
    let here : (s + i) / 2 < length ws = omega arith in
    let other : (j : ℕ) → (j ≡ s + i → ⊥) → literal_at ws′ j ≡ literal_at ws j =
    λ j ne. ap (λ xs. literal_at xs j) e ∙ literal_other ws j (s + i) l half here ne in (
      ap (λ xs. length xs) e ∙ length_with_literal ws (s + i) l ∙ len,
      λ small j g. ⊎_elim
          (λ (q : j ≡ i).
          ap (λ k. literal_at ws′ (s + k)) q ∙ ap (λ xs. literal_at xs (s + i)) e ∙ literal_same ws (s + i) l half here
          ∙ code (All-get_or IsSmall c i d lt small) ∙ sym (get_or-map code_of c i d 0 lt) ∙ ap (λ k. get_or (map code_of c) k 0) (sym q))
          (λ (ne : j ≡ i → ⊥). other (s + j) (λ h. ne (omega arith)) ∙ before small j (omega arith))
          (cases_eq j i),
      λ j g. other j (λ h. absurd (omega arith)) ∙ rest j g,
    )

pub loop-i-preserved : goal.loop-i-preserved
loop-i-preserved c =
    one_more c.loop-i.words c.write_literal.new.words c.args.words.now c.args.start c.loop-i.i c.literal_code.result c.args.clause.now
    (record { variable = 0; negated = false }) c.loop-i-test.true c.requires.room c.literal_code.ensures.half_a_word c.literal_code.ensures.code
    c.write_literal.ensures.written c.loop-i.invariant.0 c.loop-i.invariant.1 c.loop-i.invariant.2
