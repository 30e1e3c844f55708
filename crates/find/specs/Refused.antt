-- What is refused before a network is looked for.
use Rattle.std.specs.Prelude.{ℕ, Option, nat_lt}
use Rattle.mig.specs.declared.question.Question.{Question}
use Rattle.mig.specs.declared.refusal.Refusal.{Refusal}
use Rattle.mig.specs.declared.refusal.Refusal.TheVariants.{GatesAboveReach}
use Rattle.mig.specs.Rules.{or_else, refuse_if, question_refusal}

-- the refusals of a question, then more than four gates
abbrev pub find_refusal : Question → ℕ → Option Refusal
find_refusal q gates = or_else (question_refusal q) (refuse_if (nat_lt 4 gates) GatesAboveReach)
