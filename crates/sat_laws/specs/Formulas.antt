-- Clauses lie one after another in a list of literals: the clause c is at the places from ends c up to ends (c + 1).
-- A literal is 2 * v + s, and holds where the variable v has the bit s. Two literals stand in a word, the first one in its low
-- half.
use Rattle.std.specs.Prelude.{◌≡◌, ℕ, ◌+◌, ◌*◌, ◌/◌, ◌%◌, ◌≤◌, ◌<◌, Bool, true, false, cond, eqb, List, length, get_or, set}

-- the literal in the place j
unfoldable pub literal_at : List ℕ → ℕ → ℕ
literal_at ws j = cond (eqb (j % 2) 0) (get_or ws (j / 2) 0 % 65536) (get_or ws (j / 2) 0 / 65536)

-- the words with the literal l in the place j
unfoldable pub with_literal : List ℕ → ℕ → ℕ → List ℕ
with_literal ws j l =
    set ws (j / 2) (cond (eqb (j % 2) 0) (get_or ws (j / 2) 0 / 65536 * 65536 + l) (get_or ws (j / 2) 0 % 65536 + 65536 * l))

-- a truth value as a number
abbrev pub bit : Bool → ℕ
bit true = 1
bit false = 0

-- a truth value for each variable
abbrev pub Assignment : Type 0
Assignment = ℕ → Bool

-- the literal l is true
abbrev pub Holds : Assignment → ℕ → Type 0
Holds m l = bit (m (l / 2)) ≡ l % 2

-- some literal from the place a up to b is true
abbrev pub SomeHolds : Assignment → List ℕ → ℕ → ℕ → Type 0
SomeHolds m ws a b = (j : ℕ) × (a ≤ j) × (j < b) × Holds m (literal_at ws j)

-- the first k clauses are true
abbrev pub ClausesHold : Assignment → List ℕ → List ℕ → ℕ → Type 0
ClausesHold m ws ends k = (c : ℕ) → c < k → SomeHolds m ws (get_or ends c 0) (get_or ends (c + 1) 0)

-- literals with a table of ends, and how many clauses of it count
pub record Formula : Type 0 where
  pub literals : List ℕ
  pub ends : List ℕ
  pub count : ℕ

-- the assignment is a model of F: each clause of F is true
abbrev pub IsModel : Formula → Assignment → Type 0
IsModel F m = ClausesHold m F.literals F.ends F.count

-- F implies the first k clauses: they are true in each model of F
abbrev pub Implied : Formula → List ℕ → List ℕ → ℕ → Type 0
Implied F ws ends k = (m : Assignment) → IsModel F m → ClausesHold m ws ends k

-- the first k clauses lie within the literals, one after another, and have variables below n
pub record WellFormed (ws ends : List ℕ) (k n : ℕ) : Type 0 where
  pub table : k < length ends
  pub within : (c : ℕ) → c ≤ k → get_or ends c 0 ≤ 2 * length ws
  pub small : (j : ℕ) → j < get_or ends k 0 → literal_at ws j / 2 < n
  pub rising : (c d : ℕ) → c ≤ d → d ≤ k → get_or ends c 0 ≤ get_or ends d 0

-- the first k clauses are as they were
pub record SameClauses (ws ends : List ℕ) (k : ℕ) (ws′ ends′ : List ℕ) : Type 0 where
  pub same_literals : (j : ℕ) → j < get_or ends k 0 → literal_at ws′ j ≡ literal_at ws j
  pub same_ends : (c : ℕ) → c ≤ k → get_or ends′ c 0 ≡ get_or ends c 0
