-- What is asked of the solver, and what its answer says.
use Rattle.std.specs.Prelude.{◌≡◌, ℕ, ◌≤◌, Bool, true, List, length, Some, None, Option}
use Rattle.mig.specs.declared.network.Network.{Network}
use Rattle.mig.specs.declared.question.Question.{Question}
use Rattle.mig.specs.Networks.{net_of, network_of, size}
use Rattle.mig.specs.Questions.{Valid, Meets}
use Rattle.search.specs.Meaning.{Holds, NoneWithin}
use Rattle.cnf.specs.Numbers.{question_variables, all_hold}
use Rattle.symmetry_laws.specs.Symmetry.{numbered_exact_clauses}
use Rattle.clause_words.specs.Stored.{Stores}
use Rattle.sat.specs.declared.shape.Shape.{Shape}
use Rattle.sat.specs.Shapes.{literals_in, ends_in}

-- the question and the number of gates are within bounds, and there are as many words as the search needs
pub record CanBeAsked (q : Question) (r words : ℕ) : Type 0 where
  pub valid : Valid q
  pub few : r ≤ 7
  pub room : 131072 ≤ words

-- the shape of the clauses of the question and exactly r gates, with room for 10,000 learnt clauses
pub record IsShapeOf (q : Question) (r : ℕ) (s : Shape) : Type 0 where
  pub variables : s.variables ≡ length (question_variables q r)
  pub clauses : s.clauses ≡ length (numbered_exact_clauses q r)
  pub learnt : s.learnt ≡ 10000

-- the words hold the clauses of the question and exactly r gates
abbrev pub Poses : Question → ℕ → Shape → List ℕ → Type 0
Poses q r s words = Stores (literals_in s words) (ends_in s words) s.clauses (numbered_exact_clauses q r)

-- no assignment satisfies the clauses of the question and exactly r gates
abbrev pub NoAssignment : Question → ℕ → Type 0
NoAssignment q r = (bits : List Bool) → all_hold bits (numbered_exact_clauses q r) ≡ true → ⊥

-- a network of exactly r gates that meets the question; or no assignment satisfies the clauses
abbrev pub FoundExactly : Question → ℕ → Option Network → Type 0
FoundExactly q r (Some network) = Meets q (net_of network) × (size (net_of network) ≡ r) × (network ≡ network_of (net_of network))
FoundExactly q r None = NoAssignment q r

-- a network of at most r gates that meets the question; or there is none
abbrev pub FoundUpTo : Question → ℕ → Option Network → Type 0
FoundUpTo q r (Some network) = Holds q r network
FoundUpTo q r None = NoneWithin q r
