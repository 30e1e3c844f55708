-- Gates whose nodes are renumbered, and the values of the nodes then.
use Rattle.std.proofs.Common.{◌≡◌, ℕ, ◌+◌, ◌*◌, ◌%◌, ◌<◌, ◌≤◌, Bool, true, false, cond, eqb, ◌⊎◌, List, [], ◌∷◌, ◌++◌, map, length, get_or, refl, ap, ◌∙◌, inl, inr, arith}
use Rattle.std.specs.List.{AllByRecursion as All}
use Rattle.std.proofs.lemmas.List.{length_push, get_or_append_left}
use Rattle.std.proofs.lemmas.Bool.{eq-eqb, ne_eqb, cases_lt, cases_eq, cases_order}
use Rattle.mig.specs.declared.network.Gate.{Gate}
use Rattle.mig.specs.Networks.{Kind, node, complemented, value_at, gate_value, walk, names, uses_in, Ordered, bits, levels}
use Rattle.mig.specs.Normal.{map_gate, complements}
use Rattle.mig_laws.proofs.Walks.{get_or-snoc}
use Rattle.canonical_laws.specs.Canonical.{CanonicalGate}
use Rattle.canonical_laws.proofs.Gates.{canonical_of, canonical_of_replaces, canonical_of_canonical}

-- the code of the node σ j in place of the node j, with the same complement
abbrev pub renumber : (ℕ → ℕ) → ℕ → ℕ
renumber σ c = 2 * σ (node c) + c % 2

-- the gate with its nodes renumbered, made canonical
abbrev pub renumber_gate : (ℕ → ℕ) → Gate → Gate
renumber_gate σ g = canonical_of (map_gate (renumber σ) g)

pub node-renumber : (σ : ℕ → ℕ) (c : ℕ) → node (renumber σ c) ≡ σ (node c)
node-renumber σ c = omega arith

complemented-renumber : (σ : ℕ → ℕ) (c : ℕ) → complemented (renumber σ c) ≡ complemented c
complemented-renumber σ c = let e : renumber σ c % 2 ≡ c % 2 = omega arith in ap (λ (x : ℕ). eqb x 1) e

pub renumber_gate_canonical : (σ : ℕ → ℕ) (g : Gate) → complements g ≤ 1 → CanonicalGate 0 (renumber_gate σ g)
renumber_gate_canonical σ g l =
    canonical_of_canonical (map_gate (renumber σ) g)
    (rw (complemented-renumber σ g.first, complemented-renumber σ g.second, complemented-renumber σ g.third) l)

-- the first m nodes become nodes below m', and the nodes behind them follow those from m' on
pub record Shifts (σ : ℕ → ℕ) (m m' : ℕ) : Type 0 where
  pub below : (j : ℕ) → j < m → σ j < m'
  pub behind : (j : ℕ) → m ≤ j → σ j + m ≡ j + m'

pub shifts_below : {σ : ℕ → ℕ} {m m' : ℕ} → Shifts σ m m' → (r j : ℕ) → j < m + r → σ j < m' + r
shifts_below {σ} {m} {m'} s r j h = at (cases_lt j m)
  where
    at : (j < m) ⊎ (m ≤ j) → σ j < m' + r
    at (inl l) = omega (arith, s.below j l)
    at (inr l) = omega (arith, s.behind j l)

shifts_more : {σ : ℕ → ℕ} {m m' : ℕ} → Shifts σ m m' → Shifts σ (m + 1) (m' + 1)
shifts_more s =
    record {
      below = shifts_below s 1;
      behind = λ j h. let e = s.behind j (omega arith) in omega arith;
    }

-- gates in order stay in order
pub renumbered_ordered : (σ : ℕ → ℕ) (m m' : ℕ) → 0 < m' → Shifts σ m m' → (gs : List Gate) → Ordered m gs → Ordered m' (map (renumber_gate σ) gs)
unfolding Ordered
renumbered_ordered σ m m' o s [] h = tt
renumbered_ordered σ m m' o s (g ∷ gs) h = (
  (canonical_of_replaces (map_gate (renumber σ) g)).below m' o (
    rw (node-renumber σ g.first) (s.below (node g.first) h.0.0),
    rw (node-renumber σ g.second) (s.below (node g.second) h.0.1),
    rw (node-renumber σ g.third) (s.below (node g.third) h.0.2),
  ),
  renumbered_ordered σ (m + 1) (m' + 1) (omega arith) (shifts_more s) gs h.1,
)

-- a node that only the node i becomes is named no more often than i was
pub renumbered_names : (σ : ℕ → ℕ) (i j : ℕ) → ((x : ℕ) → σ x ≡ j → x ≡ i) → (c : ℕ) → names j (renumber σ c) ≤ names i c
renumbered_names σ i j only c = rw (node-renumber σ c) (at (cases_eq (σ (node c)) j))
  where
    at : (σ (node c) ≡ j) ⊎ (σ (node c) ≡ j → ⊥) → cond (eqb (σ (node c)) j) 1 0 ≤ names i c
    at (inl e) = rw (eq-eqb (σ (node c)) j e, eq-eqb (node c) i (only (node c) e)) (omega arith)
    at (inr e) = rw (ne_eqb (σ (node c)) j e) (omega arith)

pub renumbered_uses : (σ : ℕ → ℕ) (i j : ℕ) → 0 < j → ((x : ℕ) → σ x ≡ j → x ≡ i) → (gs : List Gate) → uses_in j (map (renumber_gate σ) gs) ≤ uses_in i gs
unfolding uses_in
renumbered_uses σ i j o only [] = omega arith
renumbered_uses σ i j o only (g ∷ gs) =
    let u = (canonical_of_replaces (map_gate (renumber σ) g)).uses j o in
    let x = renumbered_names σ i j only g.first in
    let y = renumbered_names σ i j only g.second in
    let z = renumbered_names σ i j only g.third in
    let r = renumbered_uses σ i j o only gs in
    omega arith

-- R x y says that the value y may replace x: the operations of the kind keep this, and a gate's value may be replaced by
-- that of the gate made canonical
pub record Monotone {V : Type 0} (k : Kind V) (R : V → V → Type 0) : Type 0 where
  pub reflexive : (x : V) → R x x
  pub transitive : (x y z : V) → R x y → R y z → R x z
  pub complement : (x y : V) → R x y → R (k.complement x) (k.complement y)
  pub majority : (x y z x' y' z' : V) → R x x' → R y y' → R z z' → R (k.majority x y z) (k.majority x' y' z')
  pub canonical : (vs : List V) → get_or vs 0 k.constant ≡ k.constant → (g : Gate) → R (gate_value k vs g) (gate_value k vs (canonical_of g))

-- a bit may be replaced by an equal one
pub bits_monotone : Monotone bits (λ x y. y ≡ x)
bits_monotone =
    record {
      reflexive = λ x. refl;
      transitive = λ x y z p q. q ∙ p;
      complement = λ x y p. ap bits.complement p;
      majority = λ x y z x' y' z' p q r. cc;
      canonical = λ vs o g. (canonical_of_replaces g).bit vs o;
    }

-- a level may be replaced by one that is no greater
pub levels_monotone : Monotone levels (λ x y. y ≤ x)
levels_monotone =
    record {
      reflexive = λ x. omega arith;
      transitive = λ x y z p q. omega arith;
      complement = λ x y p. p;
      majority = λ x y z x' y' z' p q r. omega arith;
      canonical = λ ls o g. (canonical_of_replaces g).level ls o;
    }

-- the values vs of the nodes before renumbering, and ws after it: the value of each node that P holds of may be replaced
pub record Related {V : Type 0} (k : Kind V) (R : V → V → Type 0) (P : ℕ → Type 0) (σ : ℕ → ℕ) (vs ws : List V) : Type 0 where
  pub some : 0 < length ws
  pub constant : get_or ws 0 k.constant ≡ k.constant
  pub shifts : Shifts σ (length vs) (length ws)
  pub each : (j : ℕ) → P j → R (get_or vs j k.constant) (get_or ws (σ j) k.constant)

-- the gate names only nodes that P holds of
abbrev pub NamesOnly : (ℕ → Type 0) → Gate → Type 0
NamesOnly P g = P (node g.first) × P (node g.second) × P (node g.third)

module _ {V : Type 0} (k : Kind V) (R : V → V → Type 0) (c : Monotone k R) (P : ℕ → Type 0) (σ : ℕ → ℕ) where
  pub related_value : (vs ws : List V) → Related k R P σ vs ws → (a : ℕ) → P (node a) → R (value_at k vs a) (value_at k ws (renumber σ a))
  related_value vs ws r a p =
      rw (complemented-renumber σ a, node-renumber σ a) (at (complemented a) (get_or vs (node a) k.constant) (get_or ws (σ (node a)) k.constant) (r.each (node a) p))
    where
      at : (b : Bool) (x y : V) → R x y → R (cond b (k.complement x) x) (cond b (k.complement y) y)
      at true x y h = c.complement x y h
      at false x y h = h

  related_gate : (vs ws : List V) → Related k R P σ vs ws → (g : Gate) → NamesOnly P g → R (gate_value k vs g) (gate_value k ws (renumber_gate σ g))
  related_gate vs ws r g p =
      let h = map_gate (renumber σ) g in
      c.transitive (gate_value k vs g) (gate_value k ws h) (gate_value k ws (canonical_of h))
      (c.majority _ _ _ _ _ _ (related_value vs ws r g.first p.0) (related_value vs ws r g.second p.1) (related_value vs ws r g.third p.2))
      (c.canonical ws r.constant h)

  related_more : (vs ws : List V) → Related k R P σ vs ws → (v w : V) → R v w → Related k R P σ (vs ++ v ∷ []) (ws ++ w ∷ [])
  related_more vs ws r v w h =
      record {
        some = rw (length_push ws w) (omega arith);
        constant = get_or_append_left ws (w ∷ []) k.constant 0 r.some ∙ r.constant;
        shifts = rw (length_push vs v, length_push ws w) (shifts_more r.shifts);
        each = λ j p. rw (get_or-snoc vs v k.constant j, get_or-snoc ws w k.constant (σ j)) (at j p (cases_order j (length vs)));
      }
    where
      at : (j : ℕ) → P j → (j ≡ length vs) ⊎ ((j < length vs) ⊎ (length vs < j))
          → R (cond (eqb j (length vs)) v (get_or vs j k.constant)) (cond (eqb (σ j) (length ws)) w (get_or ws (σ j) k.constant))
      at j p (inl e) = rw (eq-eqb j (length vs) e, eq-eqb (σ j) (length ws) (omega (arith, r.shifts.behind j (omega arith)))) h
      at j p (inr (inl l)) =
          rw (ne_eqb j (length vs) (omega arith), ne_eqb (σ j) (length ws) (omega (arith, r.shifts.below j l))) (r.each j p)
      at j p (inr (inr l)) =
          rw (ne_eqb j (length vs) (omega arith), ne_eqb (σ j) (length ws) (omega (arith, r.shifts.behind j (omega arith)))) (r.each j p)

  pub related_walk : (vs ws : List V) → Related k R P σ vs ws → (gs : List Gate) → All (NamesOnly P) gs → Related k R P σ (walk k vs gs) (walk k ws (map (renumber_gate σ) gs))
  unfolding walk
  related_walk vs ws r [] p = r
  related_walk vs ws r (g ∷ gs) p =
      related_walk (vs ++ gate_value k vs g ∷ []) (ws ++ gate_value k ws (renumber_gate σ g) ∷ [])
      (related_more vs ws r (gate_value k vs g) (gate_value k ws (renumber_gate σ g)) (related_gate vs ws r g p.0)) gs p.1
