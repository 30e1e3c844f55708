use Rattle.std.proofs.Common.{rules, ◌≡◌, ℕ, true, List, [], ◌∷◌, length, refl}
use Rattle.mig.specs.declared.network.Gate.{Gate}
use Rattle.mig.specs.Rules.{is_ordered}
use Rattle.checks.proofs.+gates_ordered.Goals as goal

-- without gates the test holds
holds_of_none : (m : ℕ) (gs : List Gate) → length gs ≡ 0 → true ≡ is_ordered m gs
unfolding is_ordered
holds_of_none m [] e = refl
holds_of_none m (g ∷ gs) e = search rules

pub returns-in-None : goal.returns-in-None
returns-in-None t c = holds_of_none c.args.before c.args.gates.now (search rules)

pub returns-then-names_below : goal.returns-then-names_below
unfolding is_ordered
returns-then-names_below t c = search rules

pub returns-else-names_below : goal.returns-else-names_below
unfolding is_ordered
returns-else-names_below t c = search rules
