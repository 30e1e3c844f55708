-- The work words have room for the clauses.
use Rattle.std.proofs.Common.{◌≡◌, ℕ, ◌+◌, ◌<◌, ◌≤◌, List, [], ◌∷◌, All, length, map, take, set, get_or, zero, suc, get_or-set_same, refl, sym, ap, ◌∙◌, arith}
use Rattle.std.proofs.lemmas.List.{length-append, length-map}
use Rattle.std.proofs.lemmas.List.Sums.{sum_by-cons}
use Rattle.std.proofs.lemmas.List.Elements.{All-weaker}
use Rattle.mig.specs.declared.question.Question.{Question}
use Rattle.cnf.specs.Numbers.{Clause}
use Rattle.cnf_laws.proofs.Numbered.{NamesVariable}
use Rattle.symmetry_laws.specs.Symmetry.{numbered_exact_clauses}
use Rattle.symmetry_laws.proofs.Numbered.{exact_variables_numbered}
use Rattle.clause_bounds.specs.Sizes.{literal_total}
use Rattle.clause_bounds.proofs.Bounds.{few_clauses, few_literals, few_variables}
use Rattle.clause_words.specs.Codes.{IsSmall, code_of, codes_of}
use Rattle.clause_words.specs.Stored.{Stores, Fits}
use Rattle.sat.specs.declared.shape.Shape.{Shape}
use Rattle.sat.specs.Shapes.{table_length, literals_place}
use Rattle.clause_search.specs.Exact.{CanBeAsked, IsShapeOf}

-- as many codes as literals
length-codes_of : (cs : List Clause) → length (codes_of cs) ≡ literal_total cs
length-codes_of [] = refl
length-codes_of (c ∷ cs) =
    length-append (map code_of c) (codes_of cs) ∙ ap (λ n. n + length (codes_of cs)) (length-map c code_of) ∙ ap (λ n. length c + n) (length-codes_of cs)
    ∙ sym (sum_by-cons (λ (x : Clause). length x) c cs)

module _ (q : Question) (r words : ℕ) (can : CanBeAsked q r words) (s : Shape) (is : IsShapeOf q r s) where
  pub few_given : s.clauses ≤ 11552
  few_given = omega (arith, is.clauses, few_clauses q r can.valid can.few)

  pub few_named : s.variables ≤ 1282
  few_named = omega (arith, is.variables, few_variables q r can.valid can.few)

  -- the literals begin in the first 80,123 words
  pub literals_begin : literals_place s ≤ 80123
  literals_begin = omega (arith, few_given, few_named, is.learnt)

  pub room_for_table : literals_place s ≤ words
  room_for_table = omega (arith, literals_begin, can.room)

  -- there is room for all clauses in the words behind
  pub clauses_fit : (behind : ℕ) → literals_place s + behind ≡ words → Fits behind (table_length s) (numbered_exact_clauses q r)
  clauses_fit behind e =
      let total = length-codes_of (numbered_exact_clauses q r) in
      let few = few_literals q r can.valid can.few in
      record {
        clauses = omega (arith, is.clauses);
        literals = omega (arith, total, few, literals_begin, can.room);
        few = omega (arith, total, few);
        small = All-weaker (All (NamesVariable q r)) (All IsSmall)
            (All-weaker (NamesVariable q r) IsSmall (λ l h. (h.0, omega (arith, h.1, few_variables q r can.valid can.few))))
            (numbered_exact_clauses q r) (exact_variables_numbered q r can.valid.some_fan_out);
      }

take-nil : (c : ℕ) → ◌≡◌ {A = List Clause} (take c []) []
take-nil zero = refl
take-nil (suc c) = refl

-- words hold no clauses yet
pub stores_none : (words ends : List ℕ) → 0 < length ends → Stores words (set ends 0 0) 0 []
stores_none words ends h = record {
  count = refl;
  bounds = λ c l. let e : c ≡ 0 = omega (arith, l) in ap (λ n. get_or (set ends 0 0) n 0) e ∙ get_or-set_same ends 0 0 0 h ∙ ap (λ xs. length (codes_of xs)) (sym (take-nil c));
  literals = λ j l. absurd (omega (arith, l));
}
