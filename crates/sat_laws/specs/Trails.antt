-- Values and the trail. A value is 0 for none, 1 for the bit 0, 2 for the bit 1. A place of the trail has a literal and a
-- kind: 1 for a decision, and else forced.
use Rattle.std.specs.Prelude.{◌≡◌, ℕ, zero, suc, ◌+◌, ◌*◌, ◌/◌, ◌%◌, ◌^◌, ◌≤◌, ◌<◌, min, cond, eqb, ltb, ◌⊎◌, List, [], ◌∷◌, length, get_or}
use Rattle.sat_laws.specs.Formulas.{literal_at, Assignment, Formula, Holds, IsModel}

-- how many values are not 0
abbrev pub values_given : List ℕ → ℕ
values_given [] = 0
values_given (x ∷ xs) = min 1 x + values_given xs

-- the values make the literal l true
abbrev pub IsTrueLiteral : List ℕ → ℕ → Type 0
IsTrueLiteral values l = get_or values (l / 2) 0 ≡ 1 + l % 2

-- the values make the literal l false
abbrev pub IsFalseLiteral : List ℕ → ℕ → Type 0
IsFalseLiteral values l = get_or values (l / 2) 0 + l % 2 ≡ 2

-- the literals from the place a up to b are false
abbrev pub AreFalse : List ℕ → List ℕ → ℕ → ℕ → Type 0
AreFalse values ws a b = (j : ℕ) → a ≤ j → j < b → IsFalseLiteral values (literal_at ws j)

-- the literals from the place a up to b, but for the place i, are false
abbrev pub OthersFalse : List ℕ → List ℕ → ℕ → ℕ → ℕ → Type 0
OthersFalse values ws a b i = (j : ℕ) → a ≤ j → j < b → (j ≡ i → ⊥) → IsFalseLiteral values (literal_at ws j)

-- the clause c is one of the first k, and false; or c is k, and nothing is said
abbrev pub Conflicts : List ℕ → List ℕ → ℕ → List ℕ → ℕ → Type 0
Conflicts ws ends k values c = c < k → AreFalse values ws (get_or ends c 0) (get_or ends (c + 1) 0)

-- m agrees with the decisions below the place n of the trail
abbrev pub Agrees : Assignment → List ℕ → List ℕ → ℕ → Type 0
Agrees m trail kinds n = (j : ℕ) → j < n → get_or kinds j 0 ≡ 1 → Holds m (get_or trail j 0)

-- the literal l is true in each model of F that agrees with the decisions below n
abbrev pub Forced : Formula → List ℕ → List ℕ → ℕ → ℕ → Type 0
Forced F trail kinds n l = (m : Assignment) → IsModel F m → Agrees m trail kinds n → Holds m l

-- no model of F agrees with the decisions below n
abbrev pub Refuted : Formula → List ℕ → List ℕ → ℕ → Type 0
Refuted F trail kinds n = (m : Assignment) → IsModel F m → Agrees m trail kinds n → ⊥

-- values and trail belong together
pub record Consistent (values trail kinds : List ℕ) (top : ℕ) : Type 0 where
  pub count : top ≤ values_given values
  pub fits : top ≤ length values
  pub long : length values ≤ length trail
  pub wide : length values ≤ length kinds
  pub inside : (i : ℕ) → i < top → get_or trail i 0 / 2 < length values
  pub known : (v : ℕ) → 0 < get_or values v 0
      → (i : ℕ) × (i < top) × (get_or trail i 0 / 2 ≡ v) × (get_or values v 0 ≡ 1 + get_or trail i 0 % 2)

-- each literal of the trail is a decision, or follows from F and the decisions before it
abbrev pub Justified : Formula → List ℕ → List ℕ → ℕ → Type 0
Justified F trail kinds top = (i : ℕ) → i < top → (get_or kinds i 0 ≡ 1) ⊎ Forced F trail kinds i (get_or trail i 0)

-- what a place of the trail weighs: 2 while it is free, 1 as a decision and 0 as a forced literal
abbrev pub digit : List ℕ → ℕ → ℕ → ℕ
digit kinds top i = cond (ltb i top) (cond (eqb (get_or kinds i 0) 1) 1 0) 2

-- the number with the n digits d 0, d 1, .. in base three, the first digit first
abbrev pub in_base_three : (ℕ → ℕ) → ℕ → ℕ
in_base_three d zero = 0
in_base_three d (suc n) = 3 * in_base_three d n + d n

-- the weight of the first n places of the trail, first places most
unfoldable pub trail_weight : List ℕ → ℕ → ℕ → ℕ
trail_weight kinds top n = in_base_three (digit kinds top) n

-- the measure of the search: fuel, and then the trail
unfoldable pub measure : ℕ → List ℕ → ℕ → ℕ → ℕ
measure fuel kinds top n = fuel * 3 ^ n + trail_weight kinds top n
