-- The tests of the rules decide what they are tests of.
use Rattle.std.proofs.Common.{◌≡◌, ℕ, zero, suc, ◌+◌, ◌%◌, ◌^◌, ◌<◌, ◌≤◌, max, Bool, true, false, not, eqb, ltb, ◌⊎◌, List, [], ◌∷◌, Decides, sym, refl, ap, ◌∙◌, inl, inr, zero-add, arith}
use mathlib.Core.Bool.{beq}
use Rattle.std.proofs.lemmas.Bool.Decides.{Decides-and, Decides-ltb, Decides-like, Decides-below_and, same_from_decides}
use Rattle.std.proofs.lemmas.Bool.{cases_eq, cases_lt, eqb-true, eq-eqb, ltb-false, le-ltb, not-true, not_from_false}
use Rattle.mig.specs.declared.network.Gate.{Gate}
use Rattle.mig.specs.Networks.{Net, size, node, GateBelow, Ordered, Formed, greatest}
use Rattle.mig.specs.Tables.{bit_at, table_from}
use Rattle.mig.specs.Questions.{row_bit, Computes}
use Rattle.mig_laws.proofs.Tables.{bit_at_table, table-bits, table_front}
use Rattle.mig.specs.Rules.{is_below, is_ordered, is_formed, all_below, is_computed}

decides_below : (m : ℕ) (g : Gate) → Decides (is_below m g) (GateBelow m g)
decides_below m g =
    Decides-like (is_below m g) (λ h. (h.0, h.1.0, h.1.1)) (λ h. (h.0, (h.1, h.2)))
    (Decides-and _ _ (Decides-ltb (node g.first) m) (Decides-and _ _ (Decides-ltb (node g.second) m) (Decides-ltb (node g.third) m)))

decides_ordered : (m : ℕ) (gs : List Gate) → Decides (is_ordered m gs) (Ordered m gs)
unfolding is_ordered Ordered
decides_ordered m [] = (λ _. tt, λ _. refl)
decides_ordered m (g ∷ gs) = Decides-and _ _ (decides_below m g) (decides_ordered (m + 1) gs)

pub decides_formed : (n : ℕ) (net : Net) → Decides (is_formed n net) (Formed n net)
decides_formed n net =
    Decides-like (is_formed n net) (λ h. record { gates = h.0; output = h.1 }) (λ h. (h.gates, h.output))
    (Decides-and _ _ (decides_ordered (n + 1) net.gates) (Decides-ltb (node net.output) (n + 1 + size net)))

pub decides_beq : (a b : Bool) → Decides (beq a b) (a ≡ b)
decides_beq true true = (λ _. refl, λ _. refl)
decides_beq true false = (λ e. sym e, λ e. sym e)
decides_beq false true = (λ e. e, λ e. e)
decides_beq false false = (λ _. refl, λ _. refl)

pub decides_computes : (n table : ℕ) (net : Net) → Decides (is_computed n table net) (Computes n table net)
unfolding all_below
decides_computes n table net =
    Decides-below_and (λ t. beq (row_bit n net t) (bit_at table t)) (λ t. row_bit n net t ≡ bit_at table t)
    (λ k. all_below k (λ t. beq (row_bit n net t) (bit_at table t))) (λ t. decides_beq (row_bit n net t) (bit_at table t)) refl (λ _. refl) (2 ^ n)

-- a table is computed exactly if it is the table of the rows' bits
table_decides : (n table : ℕ) (net : Net) → table < 2 ^ (2 ^ n) → Decides (eqb (table_from (2 ^ n) 0 (row_bit n net)) table) (Computes n table net)
table_decides n table net h = (
  λ e t l. sym (bit_at_table (2 ^ n) 0 (row_bit n net) t l ∙ ap (row_bit n net) (zero-add t)) ∙ ap (λ (x : ℕ). bit_at x t) (eqb-true _ table e),
  λ c. eq-eqb _ table (table-bits (2 ^ n) 0 table (row_bit n net) h (λ i l. ap (row_bit n net) (zero-add i) ∙ c i l)),
)

-- the first rows of a column tell whether a table is computed
pub column_decides : (r n table : ℕ) (net : Net) → 2 ^ n ≤ r → table < 2 ^ (2 ^ n)
    → eqb (table_from r 0 (row_bit n net) % 2 ^ (2 ^ n)) table ≡ is_computed n table net
column_decides r n table net l h =
    ap (λ (x : ℕ). eqb x table) (table_front r (2 ^ n) (row_bit n net) l)
    ∙ same_from_decides _ (is_computed n table net) (table_decides n table net h) (decides_computes n table net)

-- the greatest of some numbers is at least each of them
pub greatest_above : (k : ℕ) (f : ℕ → ℕ) (i : ℕ) → i < k → f i ≤ greatest k f
unfolding greatest
greatest_above zero f i h = absurd (omega arith)
greatest_above (suc k) f i h = at (greatest_above k f i) (cases_eq i k)
  where
    at : (i < k → f i ≤ greatest k f) → (i ≡ k) ⊎ (i ≡ k → ⊥) → f i ≤ max (greatest k f) (f k)
    at rest (inl e) = let q = ap f e in omega arith
    at rest (inr e) = let q = rest (omega arith) in omega arith

-- and it is one of them, unless there are none
pub greatest_attained : (k : ℕ) (f : ℕ → ℕ) → 0 < k → (i : ℕ) × (i < k) × (f i ≡ greatest k f)
unfolding greatest
greatest_attained zero f h = absurd (omega arith)
greatest_attained (suc zero) f h = (0, omega arith, omega arith)
greatest_attained (suc (suc k)) f h = at (greatest_attained (suc k) f (omega arith)) (cases_lt (greatest (suc k) f) (f (suc k)))
  where
    at : ((i : ℕ) × (i < suc k) × (f i ≡ greatest (suc k) f)) → (greatest (suc k) f < f (suc k)) ⊎ (f (suc k) ≤ greatest (suc k) f) → (i : ℕ) × (i < suc (suc k)) × (f i ≡ max (greatest (suc k) f) (f (suc k)))
    at rest (inl l) = (suc k, omega arith, omega arith)
    at (i, b, e) (inr l) = (i, omega arith, omega arith)

pub decides_leb : (a b : ℕ) → Decides (not (ltb b a)) (a ≤ b)
decides_leb a b =
    (λ e. ltb-false b a (not-true (ltb b a) e), λ h. not_from_false (ltb b a) (le-ltb b a h))

-- the greatest is within a limit exactly if each is
pub decides_greatest : (k : ℕ) (f : ℕ → ℕ) (limit : ℕ) → Decides (not (ltb limit (greatest k f))) ((i : ℕ) → i < k → f i ≤ limit)
unfolding greatest
decides_greatest k f limit =
    Decides-like (not (ltb limit (greatest k f))) (λ h i l. let g = greatest_above k f i l in omega arith) (within k) (decides_leb (greatest k f) limit)
  where
    within : (j : ℕ) → ((i : ℕ) → i < j → f i ≤ limit) → greatest j f ≤ limit
    within zero h = omega arith
    within (suc j) h = let a = within j (λ i l. h i (omega arith)) in let b = h j (omega arith) in omega arith
