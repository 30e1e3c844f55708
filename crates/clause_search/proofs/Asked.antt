-- What the solver's answer says of the clauses of a question and exactly r gates.
use Rattle.std.proofs.Common.{rules, ◌≡◌, ℕ, ◌+◌, ◌<◌, ◌≤◌, Bool, true, false, cond, eqb, List, All, length, take, get_or, Some, None, Option, ltb, refl, sym, ap, ◌∙◌, subst, arith, length-take-le}
use Rattle.std.specs.List.{list_all}
use Rattle.std.proofs.lemmas.Bool.{and_parts, false≢true}
use Rattle.std.proofs.lemmas.List.{length-drop, get_or-take, get_or-map}
use Rattle.std.proofs.lemmas.List.Elements.{All-from_get_or}
use Rattle.std.proofs.lemmas.List.Sums.{list_all-from_AllPass}
use Rattle.std.proofs.lemmas.List.Folds.{list_all-append}
use Rattle.mig.specs.declared.question.Question.{Question}
use Rattle.mig.specs.declared.refusal.Refusal.{Refusal}
use Rattle.mig.specs.Questions.{Valid}
use Rattle.mig.specs.Rules.{question_refusal}
use Rattle.mig_laws.proofs.Refusals.{passes, question-passes}
use Rattle.cnf.specs.Rules.{bits_of_bytes, is_assignment, reading_refusal}
use Rattle.cnf.specs.Clauses.{clauses_of}
use Rattle.cnf.specs.Numbers.{question_number, question_clauses, numbered, all_hold, clause_holds}
use Rattle.cnf_laws.proofs.Each.{numbered_append}
use Rattle.symmetry_laws.specs.Symmetry.{symmetry_clauses, numbered_exact_clauses}
use Rattle.symmetry_laws.proofs.Numbered.{exact_variables_numbered}
use Rattle.clause_words.proofs.Models.{of_bits, clauses_true}
use Rattle.clause_words.proofs.WellFormed.{well_formed}
use Rattle.sat_laws.specs.Formulas.{WellFormed}
use Rattle.sat.specs.declared.shape.Shape.{Shape}
use Rattle.sat.specs.Shapes.{IsPosed, IsModelIn, literals_in, ends_in, literals_place, table_length}
use Rattle.sat.proofs.Parts.{hold_agreeing}
use Rattle.clause_search.specs.Exact.{CanBeAsked, IsShapeOf, Poses, NoAssignment}
use Rattle.clause_search.proofs.Room.{few_given, few_named, room_for_table, clauses_fit}

module _ (q : Question) (r : ℕ) (words : List ℕ) (can : CanBeAsked q r (length words)) (s : Shape) (is : IsShapeOf q r s) (poses : Poses q r s words) where
  -- so many words stand behind the places of the literals
  behind : literals_place s + length (literals_in s words) ≡ length words
  behind = let room = room_for_table q r (length words) can s is in omega (arith, length-drop (literals_place s) words, room)

  long_table : length (ends_in s words) ≡ table_length s
  long_table = let room = room_for_table q r (length words) can s is in length-take-le (table_length s) words (omega (arith, room))

  pub form : WellFormed (literals_in s words) (ends_in s words) s.clauses s.variables
  form =
      let fits = clauses_fit q r (length words) can s is (length (literals_in s words)) behind in
      well_formed (literals_in s words) (ends_in s words) s.clauses s.variables (numbered_exact_clauses q r) poses
      (omega (arith, long_table)) fits.literals
      (subst (λ n. All (All (λ l. (1 ≤ l.variable) × (l.variable ≤ n))) (numbered_exact_clauses q r)) (sym is.variables)
      (exact_variables_numbered q r can.valid.some_fan_out))

  pub is_posed : IsPosed s words
  is_posed = record {
    few_variables = omega (arith, few_named q r (length words) can s is);
    few_clauses = omega (arith, few_given q r (length words) can s is, is.learnt);
    room = room_for_table q r (length words) can s is;
    well_formed = form;
  }

  -- without a model no assignment satisfies the clauses
  pub none_satisfies : ((m : ℕ → Bool) → IsModelIn s words m → ⊥) → NoAssignment q r
  none_satisfies none bits h =
      none (of_bits bits) ((clauses_true bits (literals_in s words) (ends_in s words) s.clauses (numbered_exact_clauses q r) poses).0 h)

  -- bits that agree with a model satisfy the clauses
  pub model_satisfies : (m : ℕ → Bool) → IsModelIn s words m → (bits : List Bool) → ((v : ℕ) → v < s.variables → m v ≡ get_or bits v false)
      → all_hold bits (numbered_exact_clauses q r) ≡ true
  model_satisfies m h bits same =
      (clauses_true bits (literals_in s words) (ends_in s words) s.clauses (numbered_exact_clauses q r) poses).1
      (hold_agreeing m (of_bits bits) (literals_in s words) (ends_in s words) s.clauses s.variables form same h)

-- what satisfies the clauses of exactly r gates satisfies those of the question
pub question_satisfied : (q : Question) (r : ℕ) (bits : List Bool) → all_hold bits (numbered_exact_clauses q r) ≡ true → all_hold bits (question_clauses q r) ≡ true
question_satisfied q r bits h =
    let xs = clauses_of q.inputs q.table q.limits.depth q.limits.fan_out r in
    let g = question_number q r in
    (and_parts (all_hold bits (numbered g xs)) (all_hold bits (numbered g (symmetry_clauses q.inputs q.table r)))
    (sym (ap (all_hold bits) (numbered_append g xs (symmetry_clauses q.inputs q.table r)) ∙ list_all-append (clause_holds bits) (numbered g xs) (numbered g (symmetry_clauses q.inputs q.table r))) ∙ h)).0

none_from_pass : (o : Option Refusal) → passes o ≡ true → o ≡ None
none_from_pass (Some e) h = absurd (false≢true h)
none_from_pass None h = refl

-- bytes that are an assignment and satisfy the clauses are not refused
pub reading_passes : (q : Question) (r : ℕ) (bytes : List ℕ) → Valid q → r ≤ 7 → is_assignment q r bytes ≡ true
    → all_hold (bits_of_bytes bytes) (question_clauses q r) ≡ true → reading_refusal q r bytes ≡ None
reading_passes q r bytes valid few is hold =
    let asked : question_refusal q ≡ None = none_from_pass (question_refusal q) ((question-passes q).1 valid) in
    let small : ltb 7 r ≡ false = search rules in
    rw (asked, small, is, hold) refl

-- bytes of so many values, 2 for true
module _ (words bytes : List ℕ) (place n : ℕ) (long : n ≤ length bytes)
    (told : (v : ℕ) → v < n → get_or bytes v 0 ≡ cond (eqb (get_or words (place + v) 0) 2) 1 0) where
  byte : (v : ℕ) → v < n → get_or (take n bytes) v 0 ≡ cond (eqb (get_or words (place + v) 0) 2) 1 0
  byte v l = get_or-take n bytes v 0 l ∙ told v l

  one_is_true : (b : Bool) → eqb (cond b 1 0) 1 ≡ b
  one_is_true true = refl
  one_is_true false = refl

  pub bytes_agree : (v : ℕ) → v < n → eqb (get_or words (place + v) 0) 2 ≡ get_or (bits_of_bytes (take n bytes)) v false
  bytes_agree v l =
      sym (one_is_true (eqb (get_or words (place + v) 0) 2)) ∙ ap (λ x. eqb x 1) (sym (byte v l))
      ∙ sym (get_or-map (λ (b : ℕ). eqb b 1) (take n bytes) v 0 false (omega (arith, length-take-le n bytes long)))

  below_two : (b : Bool) → ltb (cond b 1 0) 2 ≡ true
  below_two true = refl
  below_two false = refl

  pub bytes_are_bits : list_all (λ (b : ℕ). ltb b 2) (take n bytes) ≡ true
  bytes_are_bits =
      list_all-from_AllPass (λ (b : ℕ). ltb b 2) (take n bytes)
      (All-from_get_or (λ (b : ℕ). ltb b 2 ≡ true) (take n bytes) 0
      (λ v l. let i : v < n = omega (arith, l, length-take-le n bytes long) in ap (λ x. ltb x 2) (byte v i) ∙ below_two (eqb (get_or words (place + v) 0) 2)))
