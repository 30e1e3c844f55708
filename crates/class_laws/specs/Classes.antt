-- What a class shares: for every limit and every number of gates, whether a network exists.
use Rattle.std.specs.Prelude.{◌≡◌, ℕ, ◌≤◌, ◌↔◌}
use Rattle.mig.specs.declared.question.Limits.{Limits}
use Rattle.mig.specs.declared.question.Question.{Question}
use Rattle.mig.specs.Networks.{Net, size}
use Rattle.mig.specs.Questions.{question_of, Meets}
use Rattle.class_laws.specs.Lifting.{lift_table}
use Rattle.class_laws.specs.Ways.{Carries, Representative}

-- some network of k gates meets the question
abbrev pub Solvable : Question → ℕ → Type 0
Solvable q k = (net : Net) × (size net ≡ k) × Meets q net

-- the questions of the two tables, over n and over m inputs, have networks of the same numbers of gates, under all limits
abbrev pub SameMinimum : ℕ → ℕ → ℕ → ℕ → Type 0
SameMinimum n f m g = (limits : Limits) (k : ℕ) → Solvable (question_of n f limits) k ↔ Solvable (question_of m g limits) k

-- g is also the representative of another table exactly when a way carries the one lifted table to the other
abbrev pub SharedExactlyInClass : ℕ → ℕ → ℕ → Type 0
SharedExactlyInClass n f g = (m h : ℕ) → m ≤ 4 → Representative (lift_table 4 m h) g ↔ Carries (lift_table 4 n f) (lift_table 4 m h)
