-- The text as a first line and clauses behind it: what is counted of it, and what is written of it.
use Rattle.std.proofs.Common.{◌≡◌, ℕ, ◌≤◌, List, [], ◌∷◌, ◌++◌, length, drop, flat_map, sym, ap, ◌∙◌, arith, length-append, zero-add, None, Result, Ok, Err, IfOk, ltb}
use Rattle.std.proofs.lemmas.Bool.{le-ltb}
use Rattle.mig.specs.declared.refusal.Refusal.{Refusal}
use Rattle.mig.specs.declared.refusal.Refusal.TheVariants.{BufferTooShort}
use Rattle.mig.specs.declared.question.Question.{Question}
use Rattle.mig.specs.Rules.{or_else, refuse_if, unless_refused, refused_by}
use Rattle.cnf.specs.Numbers.{Clause, question_variables, question_clauses}
use Rattle.cnf.specs.Text.{literal_text, clause_text, clauses_text, head_text, question_text}
use Rattle.cnf.specs.Rules.{clauses_refusal, text_refusal, text_answer, written_over, buffer_after}
use Rattle.clause_text.specs.Writing.{Writes}
use Rattle.clause_text.specs.Counting.{CountsOn}
use Rattle.clause_text.specs.Laws.{writes_more}
use Rattle.clause_text.proofs.Bounds.{text_short}

-- there are no more clauses than bytes
no_more_clauses : (cs : List Clause) → length cs ≤ length (clauses_text cs)
no_more_clauses [] = omega arith
no_more_clauses (c ∷ cs) =
    let line = length-append (flat_map literal_text c) (48 ∷ 10 ∷ []) in
    omega (arith, no_more_clauses cs, length-append (clause_text c) (clauses_text cs), line)

-- what is known of the counts of a question's clauses and their bytes, from none on
pub record Counted (q : Question) (r m b : ℕ) : Type 0 where
  pub clauses : m ≡ length (question_clauses q r)
  pub bytes : b ≡ length (clauses_text (question_clauses q r))
  pub few : b ≤ 11000000

-- where the question is not refused, the counts do not stop
pub counted : (q : Question) (r m b : ℕ) → clauses_refusal q r ≡ None →
    CountsOn (length (question_clauses q r)) 0 m → CountsOn (length (clauses_text (question_clauses q r))) 0 b → Counted q r m b
counted q r m b none first second =
    let cs = question_clauses q r in
    let few = no_more_clauses cs in
    let short = text_short q r none in
    let both = length-append (head_text (length (question_variables q r)) (length cs)) (clauses_text cs) in
    let e = first (omega arith) in
    let f = second (omega arith) in
    record { clauses = omega arith; bytes = omega arith; few = omega arith }

-- what is known once the text is written: the answer, that it fits, and the bytes
pub record Written (text before after : List ℕ) (answer : Result ℕ Refusal) : Type 0 where
  pub answered : answer ≡ Ok (length text)
  pub fits : length text ≤ length before
  pub bytes : after ≡ written_over text before

-- where the text fits, it is written by two writes, one behind the other
pub text_written : (xs ys before middle after : List ℕ) (place : ℕ) (answer : Result ℕ Refusal) → length (xs ++ ys) ≤ length before →
    Writes xs before 0 middle place → refused_by answer ≡ None → IfOk answer (λ behind. Writes ys middle place after behind) →
    Written (xs ++ ys) before after answer
text_written xs ys before middle after place (Ok behind) fits first passed second =
    let n = length (xs ++ ys) in
    let all = writes_more xs ys before middle after 0 place behind first second in
    record {
      answered = ap Ok (all.moved (omega (arith, fits)) ∙ zero-add n);
      fits = fits;
      bytes = all.written (omega (arith, fits)) ∙ ap (λ (k : ℕ). (xs ++ ys) ++ drop k before) (zero-add n);
    }
text_written xs ys before middle after place (Err e) fits first passed second = cc

-- where nothing else is refused and the text fits, no text is refused
not_refused : (q : Question) (r room : ℕ) → clauses_refusal q r ≡ None → length (question_text q r) ≤ room → text_refusal q r room ≡ None
not_refused q r room none fits =
    ap (λ o. or_else o (refuse_if (ltb room (length (question_text q r))) BufferTooShort)) none
    ∙ ap (λ t. refuse_if t BufferTooShort) (le-ltb room (length (question_text q r)) fits)

-- the text of a question is answered and stands in the buffer as the rule says
pub text_answered : (q : Question) (r : ℕ) (before after : List ℕ) (answer : Result ℕ Refusal) → clauses_refusal q r ≡ None →
    Written (question_text q r) before after answer →
    (answer ≡ text_answer q r (length before)) × (after ≡ buffer_after (text_refusal q r (length before)) (question_text q r) before)
text_answered q r before after answer none w =
    let passed = sym (not_refused q r (length before) none w.fits) in (
      w.answered ∙ ap (λ o. unless_refused o (length (question_text q r))) passed,
      w.bytes ∙ ap (λ o. buffer_after o (question_text q r) before) passed,
    )
