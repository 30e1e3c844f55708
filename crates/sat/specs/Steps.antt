-- What the search finds.
use Rattle.std.specs.Prelude.{◌≡◌, ℕ, ◌+◌, ◌/◌, ◌≤◌, ◌<◌, List, length, get_or}
use Rattle.sat_laws.specs.Formulas.{Assignment, ClausesHold}
use Rattle.sat_laws.specs.Trails.{AreFalse}
use Rattle.sat_laws.specs.Runs.{assignment_of, Running}
use Rattle.sat.specs.declared.next.Step.{Step}
use Rattle.sat.specs.declared.next.Step.TheVariants.{Model, Decide, Conflict}

-- each variable has a value
abbrev pub AreAllGiven : List ℕ → Type 0
AreAllGiven values = (v : ℕ) → v < length values → 0 < get_or values v 0

-- the values tell a model of the first k clauses, with a value for each variable
pub record IsToldModel (ws ends : List ℕ) (k : ℕ) (values : List ℕ) : Type 0 where
  pub holds : ClausesHold (assignment_of values) ws ends k
  pub given : AreAllGiven values
  pub small : (v : ℕ) → get_or values v 0 ≤ 2

-- what a pass over the first k clauses finds
abbrev pub Checked : List ℕ → List ℕ → ℕ → List ℕ → Step → Type 0
Checked ws ends k values Model = ClausesHold (assignment_of values) ws ends k
Checked ws ends k values (Decide l) = (l / 2 < length values) × (get_or values (l / 2) 0 ≡ 0)
Checked ws ends k values (Conflict c) = (c < k) × AreFalse values ws (get_or ends c 0) (get_or ends (c + 1) 0)

-- what is found: a model of the given clauses, an open literal, or a false one of the first k clauses
abbrev pub Finds : List ℕ → List ℕ → ℕ → ℕ → List ℕ → Step → Type 0
Finds ws ends given k values Model = ClausesHold (assignment_of values) ws ends given × AreAllGiven values
Finds ws ends given k values (Decide l) = (l / 2 < length values) × (get_or values (l / 2) 0 ≡ 0)
Finds ws ends given k values (Conflict c) = (c < k) × AreFalse values ws (get_or ends c 0) (get_or ends (c + 1) 0)

-- the search ends: if it runs here for the first k₀ of some clauses, these have no model
abbrev pub Ends : ℕ → List ℕ → List ℕ → ℕ → List ℕ → List ℕ → List ℕ → ℕ → Type 0
Ends k₀ ws ends k values trail kinds top = (ws₀ ends₀ : List ℕ) → Running ws₀ ends₀ k₀ ws ends k values trail kinds top → (m : Assignment) → ClausesHold m ws₀ ends₀ k₀ → ⊥

-- the search goes on: if it runs here for the first k₀ of some clauses, it runs there for the same
abbrev pub GoesOn : ℕ → List ℕ → List ℕ → ℕ → List ℕ → List ℕ → List ℕ → ℕ → List ℕ → List ℕ → ℕ → List ℕ → List ℕ → List ℕ → ℕ → Type 0
GoesOn k₀ ws ends k values trail kinds top ws′ ends′ k′ values′ trail′ kinds′ top′ = (ws₀ ends₀ : List ℕ) → Running ws₀ ends₀ k₀ ws ends k values trail kinds top
    → Running ws₀ ends₀ k₀ ws′ ends′ k′ values′ trail′ kinds′ top′
