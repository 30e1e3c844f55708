-- What each step of the search promises.
use Rattle.std.specs.Prelude.{◌≡◌, ◌≢◌, ℕ, ◌+◌, ◌*◌, ◌/◌, ◌≤◌, ◌<◌, ◌⊎◌, List, length, get_or}
use Rattle.sat_laws.specs.Formulas.{literal_at, bit, Assignment, Formula, IsModel, Implied, WellFormed, SameClauses}
use Rattle.sat_laws.specs.Trails.{IsFalseLiteral, Forced, Refuted, Consistent, Justified, trail_weight}

-- the trail with one more literal
pub record Pushed (values trail kinds : List ℕ) (top l k : ℕ) (values′ trail′ kinds′ : List ℕ) : Type 0 where
  pub consistent : Consistent values trail kinds top → get_or values (l / 2) 0 ≡ 0 → Consistent values′ trail′ kinds′ (top + 1)
  pub justified : (F : Formula) → Justified F trail kinds top → (k ≡ 1) ⊎ Forced F trail kinds top l → Justified F trail′ kinds′ (top + 1)
  -- in the place of the first free place of t literals, or of a decision among them
  pub less : (t n : ℕ) → top < n → (top ≡ t) ⊎ ((top < t) × (get_or kinds top 0 ≡ 1) × (k ≢ 1)) → trail_weight kinds′ (top + 1) n < trail_weight kinds t n

-- the trail grown by what follows from the first k clauses
pub record Grown (ws ends : List ℕ) (k : ℕ) (values trail kinds : List ℕ) (top : ℕ) (values′ trail′ kinds′ : List ℕ) (top′ : ℕ) : Type 0 where
  pub consistent : Consistent values′ trail′ kinds′ top′
  pub justified : (F : Formula) → Implied F ws ends k → Justified F trail kinds top → Justified F trail′ kinds′ top′
  pub less : (n : ℕ) → length values ≤ n → trail_weight kinds′ top′ n ≤ trail_weight kinds top n

-- the literals from the last decision on are taken off: r is one more than the decision's place
pub record Unwound (trail kinds : List ℕ) (top : ℕ) (values′ : List ℕ) (r : ℕ) : Type 0 where
  pub low : r ≤ top
  pub place : (p : ℕ) → p + 1 ≡ r → get_or kinds p 0 ≡ 1
  pub consistent : (p : ℕ) → p + 1 ≡ r → Consistent values′ trail kinds p
  pub free : (p : ℕ) → p + 1 ≡ r → get_or values′ (get_or trail p 0 / 2) 0 ≡ 0
  pub none_left : (F : Formula) → Refuted F trail kinds top → r ≡ 0 → Refuted F trail kinds 0
  pub clash : (F : Formula) → Refuted F trail kinds top → (p : ℕ) → p + 1 ≡ r → Refuted F trail kinds (p + 1)

-- the last decision is taken off, and its complement put on as forced: r is the number of literals then, or 0 where there was none
pub record Backtracked (trail kinds : List ℕ) (top : ℕ) (values′ trail′ kinds′ : List ℕ) (r : ℕ) : Type 0 where
  pub consistent : 0 < r → Consistent values′ trail′ kinds′ r
  pub less : 0 < r → (n : ℕ) → top ≤ n → trail_weight kinds′ r n < trail_weight kinds top n
  pub none_left : (F : Formula) → Refuted F trail kinds top → r ≡ 0 → Refuted F trail kinds 0
  pub justified : (F : Formula) → Refuted F trail kinds top → Justified F trail kinds top → 0 < r → Justified F trail′ kinds′ r

-- each literal from a up to b is l, or false and of a marked variable, and what was marked still is
pub record Marked (ws values : List ℕ) (a b l : ℕ) (marks marks′ : List ℕ) : Type 0 where
  pub new : (j : ℕ) → a ≤ j → j < b → (literal_at ws j ≡ l) ⊎ (IsFalseLiteral values (literal_at ws j) × (0 < get_or marks′ (literal_at ws j / 2) 0))
  pub old : (v : ℕ) → 0 < get_or marks v 0 → 0 < get_or marks′ v 0

-- While a clause is minimized a variable is marked 1 where it is still to be reached, 2 where its value is implied by those of the
-- variables kept, and 3 where it is kept.

-- each literal from a up to b is l, or false and of a variable that is implied or kept
abbrev pub Covered : List ℕ → List ℕ → ℕ → ℕ → ℕ → List ℕ → Type 0
Covered ws values a b l marks = (j : ℕ) → a ≤ j → j < b → (literal_at ws j ≡ l) ⊎ (IsFalseLiteral values (literal_at ws j) × (2 ≤ get_or marks (literal_at ws j / 2) 0))

-- a model of F that differs from the values at the variable v differs from them at some variable with a mark of k or more
abbrev pub FollowsFrom : Formula → List ℕ → List ℕ → ℕ → ℕ → Type 0
FollowsFrom F values marks k v = (m : Assignment) → IsModel F m → 0 < get_or values v 0 → get_or values v 0 + bit (m v) ≡ 2
    → (u : ℕ) × (k ≤ get_or marks u 0) × (0 < get_or values u 0) × (get_or values u 0 + bit (m u) ≡ 2)

-- the values of the variables that are implied follow from those of the variables kept
abbrev pub FollowFromKept : Formula → List ℕ → List ℕ → Type 0
FollowFromKept F values marks = (v : ℕ) → 2 ≤ get_or marks v 0 → FollowsFrom F values marks 3 v

-- each model of F differs from the values at some marked variable
abbrev pub Apart : Formula → List ℕ → List ℕ → Type 0
Apart F values marks = (m : Assignment) → IsModel F m → (v : ℕ) × (0 < get_or marks v 0) × (0 < get_or values v 0) × (get_or values v 0 + bit (m v) ≡ 2)

-- the clause of the marked variables, at the places from a up to b
pub record Gathered (ws values marks : List ℕ) (a : ℕ) (ws′ : List ℕ) (b : ℕ) : Type 0 where
  pub below : a ≤ b
  pub within : b ≤ 2 * length ws′
  pub same : (j : ℕ) → j < a → literal_at ws′ j ≡ literal_at ws j
  pub each : (v : ℕ) → v < length values → 0 < get_or marks v 0 → 0 < get_or values v 0 → (j : ℕ) × (a ≤ j) × (j < b) × (literal_at ws′ j + get_or values v 0 ≡ 2 * v + 2)
  pub small : (j : ℕ) → a ≤ j → j < b → literal_at ws′ j / 2 < length values

-- the clauses with one more, of the marked variables, or as they were
pub record Learnt (ws ends : List ℕ) (k : ℕ) (values marks : List ℕ) (ws′ ends′ : List ℕ) (k′ : ℕ) : Type 0 where
  pub shaped : WellFormed ws′ ends′ k′ (length values)
  pub kept : SameClauses ws ends k ws′ ends′
  pub more : k ≤ k′
  pub sound : (F : Formula) → Implied F ws ends k → Apart F values marks → Implied F ws′ ends′ k′

-- the clauses, with what was learnt
pub record Analyzed (ws ends : List ℕ) (k n : ℕ) (trail kinds : List ℕ) (top : ℕ) (ws′ ends′ : List ℕ) (k′ : ℕ) : Type 0 where
  pub shaped : WellFormed ws′ ends′ k′ n
  pub kept : SameClauses ws ends k ws′ ends′
  pub more : k ≤ k′
  pub sound : (F : Formula) → Implied F ws ends k → Justified F trail kinds top → Implied F ws′ ends′ k′

-- the trail after a conflict: some of its first literals, and what follows from the first k clauses
pub record Backjumped (ws ends : List ℕ) (k : ℕ) (trail kinds : List ℕ) (top : ℕ) (values′ trail′ kinds′ : List ℕ) (top′ : ℕ) : Type 0 where
  pub consistent : Consistent values′ trail′ kinds′ top′
  pub justified : (F : Formula) → Implied F ws ends k → Justified F trail kinds top → Justified F trail′ kinds′ top′

-- the trail with one more decision
pub record Decided (values trail kinds : List ℕ) (top : ℕ) (values′ trail′ kinds′ : List ℕ) : Type 0 where
  pub consistent : Consistent values′ trail′ kinds′ (top + 1)
  pub justified : (F : Formula) → Justified F trail kinds top → Justified F trail′ kinds′ (top + 1)
  pub less : (n : ℕ) → length values ≤ n → trail_weight kinds′ (top + 1) n < trail_weight kinds top n

-- the words from s up to b, moved down to e
pub record MovedDown (ws : List ℕ) (s b e : ℕ) (ws′ : List ℕ) : Type 0 where
  pub moved : (i : ℕ) → s + i < b → literal_at ws′ (e + i) ≡ literal_at ws (s + i)
  pub low : (i : ℕ) → i < e → literal_at ws′ i ≡ literal_at ws i
  pub high : (i : ℕ) → b ≤ i → literal_at ws′ i ≡ literal_at ws i

-- the first k₀ clauses, and some of those from k₀ up to k
pub record Reduced (ws ends : List ℕ) (k₀ k n : ℕ) (ws′ ends′ : List ℕ) (r : ℕ) : Type 0 where
  pub low : k₀ ≤ r
  pub shaped : WellFormed ws′ ends′ r n
  pub kept : SameClauses ws ends k₀ ws′ ends′
  pub sound : (F : Formula) → Implied F ws ends k → Implied F ws′ ends′ r

-- with the clauses below c looked at, of which kept_count are kept, and c beginning at s
pub record Reducing (ws₀ ends₀ : List ℕ) (k₀ k n : ℕ) (ws ends : List ℕ) (kept_count c s : ℕ) : Type 0 where
  pub sofar : Reduced ws₀ ends₀ k₀ k n ws ends kept_count
  pub place : s ≡ get_or ends₀ c 0
  pub behind : kept_count ≤ c
  pub under : get_or ends kept_count 0 ≤ s
  pub rest : (j : ℕ) → s ≤ j → literal_at ws j ≡ literal_at ws₀ j
  pub later : (d : ℕ) → c < d → get_or ends d 0 ≡ get_or ends₀ d 0
