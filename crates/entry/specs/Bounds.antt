-- Lower bounds on the number of gates.
use Rattle.std.specs.Prelude.{ℕ, ◌≤◌}
use Rattle.mig.specs.declared.question.Question.{Question}
use Rattle.mig.specs.Networks.{Net, size}
use Rattle.mig.specs.Questions.{Meets}

-- every majority network that meets the question has at least l gates
abbrev pub LowerBound : Question → ℕ → Type 0
LowerBound q l = (net : Net) → Meets q net → l ≤ size net
