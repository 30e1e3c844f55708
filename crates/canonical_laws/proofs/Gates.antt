-- Each gate has a replacement that does the same, and that is canonical if at most one fan-in is complemented.
use Rattle.std.proofs.Common.{◌≡◌, ℕ, ◌+◌, ◌%◌, ◌<◌, ◌≤◌, Bool, true, false, cond, not, ◌⊎◌, List, get_or, sym, refl, ap, ◌∙◌, inl, inr, arith}
use Rattle.std.proofs.lemmas.Bool.{eq-eqb, ne_eqb, cases_lt, cases_eq}
use Rattle.mig.specs.declared.network.Gate.{Gate}
use Rattle.mig.specs.Networks.{node, complemented, names, majority, value_at, gate_value, bits, levels, GateBelow}
use Rattle.mig.specs.Normal.{complements}
use Rattle.mig_laws.proofs.Nodes.{level_at}
use Rattle.canonical_laws.specs.Canonical.{CanonicalGate}

-- how often a gate names the node j
abbrev pub gate_uses : ℕ → Gate → ℕ
gate_uses j g = names j g.first + names j g.second + names j g.third

-- what the nodes of a gate weigh together, where the node j weighs w j
abbrev pub weight : (ℕ → ℕ) → Gate → ℕ
weight w g = w (node g.first) + w (node g.second) + w (node g.third)

-- the gate g' does what g does: where the constant is 0 it has the same bit and no greater level; it uses no node but the
-- constant more often; it names earlier nodes only if g does; where no node weighs less than the constant, it weighs no more
pub record Replaces (g g' : Gate) : Type 0 where
  pub bit : (vs : List Bool) → get_or vs 0 false ≡ false → gate_value bits vs g' ≡ gate_value bits vs g
  pub level : (ls : List ℕ) → get_or ls 0 0 ≡ 0 → gate_value levels ls g' ≤ gate_value levels ls g
  pub uses : (j : ℕ) → 0 < j → gate_uses j g' ≤ gate_uses j g
  pub below : (m : ℕ) → 0 < m → GateBelow m g → GateBelow m g'
  pub lighter : (w : ℕ → ℕ) → ((j : ℕ) → w 0 ≤ w j) → weight w g' ≤ weight w g

-- a replacement that is canonical if at most one fan-in is complemented
abbrev Replacement : Gate → Type 0
Replacement g = (g' : Gate) × Replaces g g' × (complements g ≤ 1 → CanonicalGate 0 g')

abbrev gate : ℕ → ℕ → ℕ → Gate
gate a b c = record { first = a; second = b; third = c }

majority-swap : (u v w : Bool) → majority u v w ≡ majority v u w
majority-swap true true w = refl
majority-swap true false w = refl
majority-swap false true w = refl
majority-swap false false w = refl

majority_turn : (u v w : Bool) → majority u v w ≡ majority u w v
majority_turn true true true = refl
majority_turn true true false = refl
majority_turn true false true = refl
majority_turn true false false = refl
majority_turn false true true = refl
majority_turn false true false = refl
majority_turn false false true = refl
majority_turn false false false = refl

majority_same : (u w : Bool) → majority u u w ≡ u
majority_same true w = refl
majority_same false w = refl

majority_opposite : (u w : Bool) → majority w u (not u) ≡ w
majority_opposite true true = refl
majority_opposite true false = refl
majority_opposite false true = refl
majority_opposite false false = refl

-- the fan-ins may change places
swapped : (a b c : ℕ) → Replacement (gate b a c) → Replacement (gate a b c)
swapped a b c (g, h, canonical) = (
  g,
  record {
    bit = λ vs o. h.bit vs o ∙ majority-swap (value_at bits vs b) (value_at bits vs a) (value_at bits vs c);
    level = λ ls o. let l = h.level ls o in omega arith;
    uses = λ j o. let l = h.uses j o in omega arith;
    below = λ m o l. h.below m o (l.1, l.0, l.2);
    lighter = λ w o. let l = h.lighter w o in omega arith;
  },
  λ l. canonical (omega arith),
)

turned : (a b c : ℕ) → Replacement (gate a c b) → Replacement (gate a b c)
turned a b c (g, h, canonical) = (
  g,
  record {
    bit = λ vs o. h.bit vs o ∙ majority_turn (value_at bits vs a) (value_at bits vs c) (value_at bits vs b);
    level = λ ls o. let l = h.level ls o in omega arith;
    uses = λ j o. let l = h.uses j o in omega arith;
    below = λ m o l. h.below m o (l.0, l.2, l.1);
    lighter = λ w o. let l = h.lighter w o in omega arith;
  },
  λ l. canonical (omega arith),
)

-- a gate with the value of its first fan-in is replaced by a buffer
buffered : (a b c : ℕ) → ((vs : List Bool) → gate_value bits vs (gate a b c) ≡ value_at bits vs a)
    → (complements (gate a b c) ≤ 1 → complemented a ≡ false) → Replacement (gate a b c)
buffered a b c value plain = (
  gate 0 1 a,
  record {
    bit = λ vs o. rw (o, value vs);
    level = λ ls o. rw (level_at ls a, o) (omega arith);
    uses = λ j o. rw (ne_eqb 0 j (omega arith)) (omega arith);
    below = λ m o l. (o, o, l.0);
    lighter = λ w o. omega (arith, o (node b), o (node c));
  },
  λ l. let p = plain l in record {
    once = rw p (omega arith);
    shape = inr (record { first = refl; second = refl; plain = p; source = omega arith });
  },
)

-- two codes of one node, of which one is complemented
opposite_complemented : (a b : ℕ) → node a ≡ node b → (a ≡ b → ⊥) → complemented b ≡ not (complemented a)
opposite_complemented a b e d = at (cases_eq (a % 2) 1)
  where
    at : (a % 2 ≡ 1) ⊎ (a % 2 ≡ 1 → ⊥) → complemented b ≡ not (complemented a)
    at (inl p) = rw (eq-eqb (a % 2) 1 p) (ne_eqb (b % 2) 1 (omega arith))
    at (inr p) = rw (ne_eqb (a % 2) 1 p) (eq-eqb (b % 2) 1 (omega arith))

opposite_value : (vs : List Bool) (a b : ℕ) → node a ≡ node b → (a ≡ b → ⊥) → value_at bits vs b ≡ not (value_at bits vs a)
opposite_value vs a b e d = rw (opposite_complemented a b e d, e) (at (complemented a) (get_or vs (node b) false))
  where
    at : (p v : Bool) → cond (not p) (not v) v ≡ not (cond p (not v) v)
    at true true = refl
    at true false = refl
    at false v = refl

-- a gate that names one node twice
pair : (a b c : ℕ) → node a ≡ node b → Replacement (gate a b c)
pair a b c e = at (cases_eq a b)
  where
    first_plain : (p q r : Bool) → p ≡ q → cond p 1 0 + cond q 1 0 + cond r 1 0 ≤ 1 → p ≡ false
    first_plain true true r s l = absurd (omega arith)
    first_plain true false r s l = s
    first_plain false q r s l = refl

    third_plain : (p q r : Bool) → q ≡ not p → cond r 1 0 + cond p 1 0 + cond q 1 0 ≤ 1 → r ≡ false
    third_plain p q false s l = refl
    third_plain true q true s l = absurd (omega arith)
    third_plain false true true s l = absurd (omega arith)
    third_plain false false true s l = sym s

    at : (a ≡ b) ⊎ (a ≡ b → ⊥) → Replacement (gate a b c)
    at (inl s) =
        buffered a b c (λ vs. rw s (majority_same (value_at bits vs b) (value_at bits vs c)))
        (first_plain (complemented a) (complemented b) (complemented c) (ap complemented s))
    at (inr d) =
        turned a b c (swapped a c b (buffered c a b
        (λ vs. rw (opposite_value vs a b e d) (majority_opposite (value_at bits vs a) (value_at bits vs c)))
        (third_plain (complemented a) (complemented b) (complemented c) (opposite_complemented a b e d))))

-- a gate whose fan-ins are in order
sorted : (a b c : ℕ) → node a ≤ node b → node b ≤ node c → Replacement (gate a b c)
sorted a b c p q = at (cases_eq (node a) (node b)) (cases_eq (node b) (node c))
  where
    at : (node a ≡ node b) ⊎ (node a ≡ node b → ⊥) → (node b ≡ node c) ⊎ (node b ≡ node c → ⊥) → Replacement (gate a b c)
    at (inl e) d = pair a b c e
    at (inr d) (inl e) = swapped a b c (turned b a c (pair b c a e))
    at (inr d) (inr e) = (
      gate a b c,
      record { bit = λ vs o. refl; level = λ ls o. omega arith; uses = λ j o. omega arith; below = λ m o l. l; lighter = λ w o. omega arith },
      λ l. record { once = l; shape = inl (omega arith, omega arith) },
    )

replacement : (g : Gate) → Replacement g
replacement g = at (cases_lt (node b) (node a)) (cases_lt (node c) (node b)) (cases_lt (node c) (node a))
  where
    a : ℕ
    a = g.first

    b : ℕ
    b = g.second

    c : ℕ
    c = g.third

    at : (node b < node a) ⊎ (node a ≤ node b) → (node c < node b) ⊎ (node b ≤ node c) → (node c < node a) ⊎ (node a ≤ node c) → Replacement (gate a b c)
    at (inr p) (inr q) r = sorted a b c p q
    at (inr p) (inl q) (inr r) = turned a b c (sorted a c b r (omega arith))
    at (inr p) (inl q) (inl r) = turned a b c (swapped a c b (sorted c a b (omega arith) p))
    at (inl p) (inr q) (inr r) = swapped a b c (sorted b a c (omega arith) r)
    at (inl p) (inr q) (inl r) = swapped a b c (turned b a c (sorted b c a q (omega arith)))
    at (inl p) (inl q) r = swapped a b c (turned b a c (swapped b c a (sorted c b a (omega arith) (omega arith))))

-- the gate with its fan-ins in rising order, or the buffer of the node that it copies
pub canonical_of : Gate → Gate
canonical_of g = (replacement g).0

pub canonical_of_replaces : (g : Gate) → Replaces g (canonical_of g)
unfolding canonical_of
canonical_of_replaces g = (replacement g).1

pub canonical_of_canonical : (g : Gate) → complements g ≤ 1 → CanonicalGate 0 (canonical_of g)
unfolding canonical_of
canonical_of_canonical g = (replacement g).2
