-- The clause text of the smallest question.
use Rattle.std.proofs.Common.{◌≡◌, length, replicate, ltb, refl, ap, ◌∙◌, arith}
use Rattle.std.proofs.lemmas.Fmt.{decimal_digit}
use Rattle.cnf.specs.Variables.{each, variables}
use Rattle.cnf.specs.Clauses.{clauses_of}
use Rattle.cnf.specs.Numbers.{total, number, numbered}
use Rattle.cnf.specs.Text.{question_text}
use Rattle.cnf.specs.Rules.{clauses_refusal, text_refusal, buffer_after}
use Rattle.mig.specs.declared.question.Question.{Question}
use Rattle.mig.specs.declared.refusal.Refusal.TheVariants.{BufferTooShort}
use Rattle.mig.specs.Questions.{input_bits}
use Rattle.mig.specs.Rules.{or_else, refuse_if}
use Rattle.known_cells.specs.Table.{question, smallest_clause_text}

pub smallest_text : question_text (question 0 1 0 1) 0 ≡ smallest_clause_text
unfolding each variables clauses_of total number numbered input_bits
smallest_text = rw (decimal_digit 1 (omega arith), decimal_digit 2 (omega arith)) refl

-- the text written over 21 bytes of 0
pub smallest_written : (q : Question) → q ≡ question 0 1 0 1
    → buffer_after (text_refusal q 0 21) (question_text q 0) (replicate 21 0) ≡ smallest_clause_text
smallest_written q e =
    ap (λ p. buffer_after (text_refusal p 0 21) (question_text p 0) (replicate 21 0)) e
    ∙ ap (λ t. buffer_after (or_else (clauses_refusal (question 0 1 0 1) 0) (refuse_if (ltb 21 (length t)) BufferTooShort)) t (replicate 21 0)) smallest_text
