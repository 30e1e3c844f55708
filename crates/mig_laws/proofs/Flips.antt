-- Codes whose complements are flipped, and the values that they stand for.
use Rattle.std.proofs.Common.{◌≡◌, ℕ, zero, suc, ◌+◌, ◌-◌, ◌%◌, ◌<◌, ◌≤◌, Bool, true, false, cond, not, eqb, ◌⊎◌, List, [], ◌∷◌, ◌++◌, map, length, get_or, sym, refl, ap, ◌∙◌, inl, inr, arith}
use Rattle.std.proofs.lemmas.List.{length_push}
use Rattle.std.proofs.lemmas.Bool.{ne_eqb, eqb-true, cond-true, cond-false, cases_Bool}
use Rattle.mig.specs.declared.network.Gate.{Gate}
use Rattle.mig.specs.Networks.{Kind, Lawful, node, complemented, value_at, gate_value, walk}
use Rattle.mig.specs.Normal.{flip, flip_naming, map_gate, complements}
use Rattle.mig_laws.proofs.Walks.{get_or-snoc}

pub node-flip : (c : ℕ) → node (flip c) ≡ node c
node-flip c = omega arith

complemented-flip : (c : ℕ) → complemented (flip c) ≡ not (complemented c)
complemented-flip c = ap (λ (x : ℕ). eqb x 1) (odd c) ∙ other (c % 2) (omega arith)
  where
    odd : (a : ℕ) → flip a % 2 ≡ 1 - a % 2
    odd a = omega arith

    other : (a : ℕ) → a ≤ 1 → eqb (1 - a) 1 ≡ not (eqb a 1)
    other zero h = refl
    other (suc zero) h = refl
    other (suc (suc a)) h = absurd (omega arith)

pub node-flip_naming : (m c : ℕ) → node (flip_naming m c) ≡ node c
node-flip_naming m c = at (eqb (node c) m)
  where
    at : (b : Bool) → node (cond b (flip c) c) ≡ node c
    at true = node-flip c
    at false = refl

-- a flipped code stands for the complement
value_flip : {V : Type 0} (k : Kind V) → Lawful k → (vs : List V) (c : ℕ) → value_at k vs (flip c) ≡ k.complement (value_at k vs c)
value_flip k law vs c = rw (node-flip c, complemented-flip c) (at (complemented c) (get_or vs (node c) k.constant))
  where
    at : (b : Bool) (v : _) → cond (not b) (k.complement v) v ≡ k.complement (cond b (k.complement v) v)
    at true v = sym (law.twice v)
    at false v = refl

-- a gate with its fan-ins flipped has the complement of its value
pub gate-flip : {V : Type 0} (k : Kind V) → Lawful k → (vs : List V) (g : Gate) → gate_value k vs (map_gate flip g) ≡ k.complement (gate_value k vs g)
gate-flip k law vs g =
    let x = value_flip k law vs g.first in
    let y = value_flip k law vs g.second in
    let z = value_flip k law vs g.third in
    let m = law.all (value_at k vs g.first) (value_at k vs g.second) (value_at k vs g.third) in
    cc

-- the values ws are the values vs, but the node m is complemented
pub record TurnedAt {V : Type 0} (k : Kind V) (m : ℕ) (vs ws : List V) : Type 0 where
  pub long : length ws ≡ length vs
  pub inside : m < length vs
  pub each : (j : ℕ) → get_or ws j k.constant ≡ cond (eqb j m) (k.complement (get_or vs j k.constant)) (get_or vs j k.constant)

-- a code that is flipped where it names m stands for what it stood for
pub value_turned : {V : Type 0} (k : Kind V) → Lawful k → (m : ℕ) (vs ws : List V) → TurnedAt k m vs ws → (c : ℕ) → value_at k ws (flip_naming m c) ≡ value_at k vs c
value_turned {V} k law m vs ws t c = at (cases_Bool (eqb (node c) m))
  where
    complement_in : (b : Bool) (u v : V) → u ≡ k.complement v → cond b (k.complement u) u ≡ k.complement (cond b (k.complement v) v)
    complement_in true u v e = ap k.complement e
    complement_in false u v e = e

    at : (eqb (node c) m ≡ true) ⊎ (eqb (node c) m ≡ false) → value_at k ws (flip_naming m c) ≡ value_at k vs c
    at (inl e) =
        let u : get_or ws (node c) k.constant ≡ k.complement (get_or vs (node c) k.constant) =
        t.each (node c) ∙ cond-true (eqb (node c) m) (k.complement (get_or vs (node c) k.constant)) (get_or vs (node c) k.constant) e in
        ap (value_at k ws) (cond-true (eqb (node c) m) (flip c) c e)
        ∙ value_flip k law ws c
        ∙ ap k.complement (complement_in (complemented c) (get_or ws (node c) k.constant) (get_or vs (node c) k.constant) u)
        ∙ law.twice (value_at k vs c)
    at (inr e) =
        let u : get_or ws (node c) k.constant ≡ get_or vs (node c) k.constant =
        t.each (node c) ∙ cond-false (eqb (node c) m) (k.complement (get_or vs (node c) k.constant)) (get_or vs (node c) k.constant) e in
        ap (value_at k ws) (cond-false (eqb (node c) m) (flip c) c e)
        ∙ ap (λ (v : V). cond (complemented c) (k.complement v) v) u

gate-turned : {V : Type 0} (k : Kind V) → Lawful k → (m : ℕ) (vs ws : List V) → TurnedAt k m vs ws → (g : Gate) → gate_value k ws (map_gate (flip_naming m) g) ≡ gate_value k vs g
gate-turned k law m vs ws t g =
    let x = value_turned k law m vs ws t g.first in
    let y = value_turned k law m vs ws t g.second in
    let z = value_turned k law m vs ws t g.third in
    cc

-- one more node of the same value
turned_push : {V : Type 0} (k : Kind V) (m : ℕ) (vs ws : List V) (v w : V) → TurnedAt k m vs ws → w ≡ v → TurnedAt k m (vs ++ v ∷ []) (ws ++ w ∷ [])
turned_push {V} k m vs ws v w t e =
    record {
      long = rw (length_push ws w, length_push vs v, t.long);
      inside = rw (length_push vs v) (omega (arith, t.inside));
      each = λ j. rw (get_or-snoc ws w k.constant j, get_or-snoc vs v k.constant j, t.long, e) (at j (cases_Bool (eqb j (length vs))));
    }
  where
    at : (j : ℕ) → (eqb j (length vs) ≡ true) ⊎ (eqb j (length vs) ≡ false)
        → cond (eqb j (length vs)) v (get_or ws j k.constant)
        ≡ cond (eqb j m) (k.complement (cond (eqb j (length vs)) v (get_or vs j k.constant))) (cond (eqb j (length vs)) v (get_or vs j k.constant))
    at j (inl h) =
        let i = t.inside in
        let q = eqb-true j (length vs) h in
        rw (h, ne_eqb j m (omega arith))
    at j (inr h) = rw h (t.each j)

-- the last node complemented
pub turned_start : {V : Type 0} (k : Kind V) (m : ℕ) (us : List V) (v : V) → length us ≡ m → TurnedAt k m (us ++ v ∷ []) (us ++ k.complement v ∷ [])
turned_start k m us v l =
    record {
      long = rw (length_push us (k.complement v), length_push us v);
      inside = rw (length_push us v) (omega arith);
      each = λ j. rw (get_or-snoc us (k.complement v) k.constant j, get_or-snoc us v k.constant j, l) (at (eqb j m) (get_or us j k.constant));
    }
  where
    at : (b : Bool) (u : _) → cond b (k.complement v) u ≡ cond b (k.complement (cond b v u)) (cond b v u)
    at true u = refl
    at false u = refl

-- the nodes behind keep their values, where each code that names m is flipped
pub walk-turned : {V : Type 0} (k : Kind V) → Lawful k → (m : ℕ) (vs ws : List V) → TurnedAt k m vs ws → (gs : List Gate) → TurnedAt k m (walk k vs gs) (walk k ws (map (map_gate (flip_naming m)) gs))
unfolding walk
walk-turned k law m vs ws t [] = t
walk-turned k law m vs ws t (g ∷ gs) =
    walk-turned k law m (vs ++ gate_value k vs g ∷ []) (ws ++ gate_value k ws (map_gate (flip_naming m) g) ∷ [])
    (turned_push k m vs ws (gate_value k vs g) (gate_value k ws (map_gate (flip_naming m) g)) t (gate-turned k law m vs ws t g)) gs

-- flipping two or three complements leaves at most one
pub complements-flip : (g : Gate) → 2 ≤ complements g → complements (map_gate flip g) ≤ 1
complements-flip g h =
    rw (complemented-flip g.first, complemented-flip g.second, complemented-flip g.third)
    (at (complemented g.first) (complemented g.second) (complemented g.third) h)
  where
    at : (a b c : Bool) → 2 ≤ cond a 1 0 + cond b 1 0 + cond c 1 0 → cond (not a) 1 0 + cond (not b) 1 0 + cond (not c) 1 0 ≤ 1
    at true true true h = omega arith
    at true true false h = omega arith
    at true false true h = omega arith
    at true false false h = absurd (omega arith)
    at false true true h = omega arith
    at false true false h = absurd (omega arith)
    at false false true h = absurd (omega arith)
    at false false false h = absurd (omega arith)
