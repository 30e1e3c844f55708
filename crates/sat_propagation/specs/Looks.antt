-- What a look at a clause finds.
use Rattle.std.specs.Prelude.{◌≡◌, ℕ, ◌/◌, ◌≤◌, ◌<◌, List, get_or}
use Rattle.sat_laws.specs.Formulas.{literal_at}
use Rattle.sat_laws.specs.Trails.{IsTrueLiteral, AreFalse, OthersFalse}
use Rattle.sat_propagation.specs.declared.clause_state.ClauseState.{ClauseState}
use Rattle.sat_propagation.specs.declared.clause_state.ClauseState.TheVariants.{Falsified, Forcing, Open, Satisfied}

-- what is found of the literals from a up to b
abbrev pub Looked : List ℕ → List ℕ → ℕ → ℕ → ClauseState → Type 0
Looked ws values a b Falsified = AreFalse values ws a b
Looked ws values a b (Forcing p) = (a ≤ p) × (p < b) × (get_or values (literal_at ws p / 2) 0 ≡ 0) × OthersFalse values ws a b p
Looked ws values a b (Open p) = (a ≤ p) × (p < b) × (get_or values (literal_at ws p / 2) 0 ≡ 0)
Looked ws values a b Satisfied = (j : ℕ) × (a ≤ j) × (j < b) × IsTrueLiteral values (literal_at ws j)
