-- How the words are laid out, and what the solver answers.
use Rattle.std.specs.Prelude.{◌≡◌, ℕ, ◌+◌, ◌*◌, ◌≤◌, ◌<◌, eqb, ◌⊎◌, List, length, get_or, take, drop}
use Rattle.sat_laws.specs.Formulas.{Assignment, ClausesHold, WellFormed}
use Rattle.sat.specs.declared.shape.Shape.{Shape}
use Rattle.sat.specs.declared.solving.Answer.{Answer}
use Rattle.sat.specs.declared.solving.Answer.TheVariants.{Satisfiable, Unsatisfiable, Refused}

-- the length of the table of ends, which begins the words
abbrev pub table_length : Shape → ℕ
table_length s = s.clauses + s.learnt + 1

-- where the values begin: behind the table of ends
abbrev pub values_place : Shape → ℕ
values_place s = table_length s

-- the length of the notes
abbrev pub notes_length : Shape → ℕ
notes_length s = 82 + 8 * s.variables + 2 * s.clauses + 2 * s.learnt

-- where the literals begin: behind values, trail, kinds, marks and notes
abbrev pub literals_place : Shape → ℕ
literals_place s = table_length s + 4 * s.variables + notes_length s

-- the table of ends in the words
abbrev pub ends_in : Shape → List ℕ → List ℕ
ends_in s words = take (table_length s) words

-- the literals in the words
abbrev pub literals_in : Shape → List ℕ → List ℕ
literals_in s words = drop (literals_place s) words

-- the words hold clauses of that shape, and there is room
pub record IsPosed (s : Shape) (words : List ℕ) : Type 0 where
  pub few_variables : s.variables ≤ 32768
  pub few_clauses : s.clauses + s.learnt ≤ 32767
  pub room : literals_place s ≤ length words
  pub well_formed : WellFormed (literals_in s words) (ends_in s words) s.clauses s.variables

-- the assignment makes the clauses in the words true
abbrev pub IsModelIn : Shape → List ℕ → Assignment → Type 0
IsModelIn s words m = ClausesHold m (literals_in s words) (ends_in s words) s.clauses

-- the assignment that the words tell: 2 for true
abbrev pub assignment_in : Shape → List ℕ → Assignment
assignment_in s words v = eqb (get_or words (values_place s + v) 0) 2

-- each variable has the value 1, for false, or 2, for true
abbrev pub AreValuesIn : Shape → List ℕ → Type 0
AreValuesIn s words = (v : ℕ) → v < s.variables
    → (get_or words (values_place s + v) 0 ≡ 1) ⊎ (get_or words (values_place s + v) 0 ≡ 2)

-- what an answer says of the words before and after
abbrev pub Answered : Shape → List ℕ → List ℕ → Answer → Type 0
Answered s before after Satisfiable = IsPosed s before × IsModelIn s before (assignment_in s after) × AreValuesIn s after
Answered s before after Unsatisfiable = IsPosed s before × ((m : Assignment) → IsModelIn s before m → ⊥)
Answered s before after Refused = IsPosed s before → ⊥
