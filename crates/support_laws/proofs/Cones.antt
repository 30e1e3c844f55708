-- The fan-in cone of a node: its value depends on the cone alone, and the cone is small.
use Rattle.std.proofs.Common.{◌≡◌, ℕ, suc, ◌+◌, ◌*◌, ◌^◌, ◌≤◌, max, Bool, true, false, cond, ◌&&◌, ◌||◌, eqb, ◌⊎◌, List, [], ◌∷◌, ◌++◌, length, get_or, refl, ap, subst, inl, inr, arith}
use native.Mathlib.Nat.{pow-succ', pow-le-pow_right}
use Rattle.std.proofs.lemmas.List.{length_push, get_or_append_left, get_or_push}
use Rattle.std.proofs.lemmas.Bool.{eq-eqb, ne_eqb, cases_eq, or_left, or_right, and_from}
use Rattle.mig.specs.declared.network.Gate.{Gate}
use Rattle.mig.specs.Networks.{Kind, node, complemented, walk, value_at, gate_value, levels}
use Rattle.mig_laws.proofs.Nodes.{level_at}
use Rattle.mig_laws.proofs.Walks.{get_or-snoc}
use Rattle.support_laws.proofs.Sums.{sum, weight_if, sum_le, sum_only, sum_three}

-- the node j is a fan-in of the gate
abbrev is_fan_in : Gate → ℕ → Bool
is_fan_in g j = eqb j (node g.first) || (eqb j (node g.second) || eqb j (node g.third))

-- the node j, one of the m that stand before the gates, is in the fan-in cone of the node o
unfoldable pub in_cone : List Gate → ℕ → ℕ → ℕ → Bool
in_cone [] m o j = eqb j o
in_cone (g ∷ gs) m o j = in_cone gs (suc m) o j || (in_cone gs (suc m) o m && is_fan_in g j)

same_value : {V : Type 0} (k : Kind V) (us vs : List V) (c : ℕ) → get_or us (node c) k.constant ≡ get_or vs (node c) k.constant → value_at k us c ≡ value_at k vs c
same_value k us vs c e = ap (λ v. cond (complemented c) (k.complement v) v) e

-- walks from two starts that agree on the cone of a node agree on the node
pub cone_decides_value : {V : Type 0} (k : Kind V) (gs : List Gate) (us vs : List V) (m o : ℕ) → length us ≡ m → length vs ≡ m
    → ((j : ℕ) → in_cone gs m o j ≡ true → get_or us j k.constant ≡ get_or vs j k.constant)
    → get_or (walk k us gs) o k.constant ≡ get_or (walk k vs gs) o k.constant
unfolding walk in_cone
cone_decides_value k [] us vs m o p q h = h o (eq-eqb o o refl)
cone_decides_value k (g ∷ gs) us vs m o p q h =
    cone_decides_value k gs (us ++ (gate_value k us g ∷ [])) (vs ++ (gate_value k vs g ∷ [])) (suc m) o
    (omega (arith, length_push us (gate_value k us g))) (omega (arith, length_push vs (gate_value k vs g))) (λ j e. at j e (cases_eq j m))
  where
    fan_in : in_cone gs (suc m) o m ≡ true → (j : ℕ) → is_fan_in g j ≡ true → get_or us j k.constant ≡ get_or vs j k.constant
    fan_in e j f = h j (or_right (in_cone gs (suc m) o j) (in_cone gs (suc m) o m && is_fan_in g j) (and_from (in_cone gs (suc m) o m) (is_fan_in g j) e f))

    gate : in_cone gs (suc m) o m ≡ true → gate_value k us g ≡ gate_value k vs g
    gate e =
        let x = node g.first in
        let y = node g.second in
        let z = node g.third in
        let p = same_value k us vs g.first (fan_in e x (or_left (eqb x x) (eqb x y || eqb x z) (eq-eqb x x refl))) in
        let q = same_value k us vs g.second (fan_in e y (or_right (eqb y x) (eqb y y || eqb y z) (or_left (eqb y y) (eqb y z) (eq-eqb y y refl)))) in
        let r = same_value k us vs g.third (fan_in e z (or_right (eqb z x) (eqb z y || eqb z z) (or_right (eqb z y) (eqb z z) (eq-eqb z z refl)))) in
        cc

    at : (j : ℕ) → in_cone gs (suc m) o j ≡ true → (j ≡ m) ⊎ (j ≡ m → ⊥)
        → get_or (us ++ (gate_value k us g ∷ [])) j k.constant ≡ get_or (vs ++ (gate_value k vs g ∷ [])) j k.constant
    at j e (inl i) =
        rw (get_or_push us (gate_value k us g) k.constant j (omega arith), get_or_push vs (gate_value k vs g) k.constant j (omega arith))
        (gate (subst (λ (l : ℕ). in_cone gs (suc m) o l ≡ true) i e))
    at j e (inr i) =
        rw (get_or-snoc us (gate_value k us g) k.constant j, get_or-snoc vs (gate_value k vs g) k.constant j, ne_eqb j (length us) (omega arith), ne_eqb j (length vs) (omega arith))
        (h j (or_left (in_cone gs (suc m) o j) (in_cone gs (suc m) o m && is_fan_in g j) e))

-- with each gate that is replaced by its three fan-ins, a cone grows by at most two
pub cone_by_gates : (gs : List Gate) (m o : ℕ) → sum m (λ j. weight_if (in_cone gs m o j) 1) ≤ 2 * length gs + 1
unfolding sum in_cone
cone_by_gates [] m o = sum_only m o (λ j. 1)
cone_by_gates (g ∷ gs) m o =
    omega (
      arith,
      cone_by_gates gs (suc m) o,
      sum_three m (in_cone gs (suc m) o) (in_cone gs (suc m) o m) (node g.first) (node g.second) (node g.third) (λ j. 1),
      two_more (in_cone gs (suc m) o m),
    )
  where
    two_more : (b : Bool) → weight_if b 3 ≤ weight_if b 1 + 2
    two_more true = omega arith
    two_more false = omega arith

weight_if_le : (b : Bool) (v w : ℕ) → v ≤ w → weight_if b v ≤ weight_if b w
weight_if_le true v w h = h
weight_if_le false v w h = omega arith

-- 3 to the level of a gate is at least the sum of 3 to the levels of its fan-ins
powers_of_fan_ins : (x y z : ℕ) → 3 ^ x + 3 ^ y + 3 ^ z ≤ 3 ^ (1 + max x (max y z))
powers_of_fan_ins x y z =
    let m = max x (max y z) in
    let s : 1 + max x (max y z) ≡ suc (max x (max y z)) = omega arith in
    let a : 3 ^ x ≤ 3 ^ m = pow-le-pow_right (omega arith) (omega arith) in
    let b : 3 ^ y ≤ 3 ^ m = pow-le-pow_right (omega arith) (omega arith) in
    let c : 3 ^ z ≤ 3 ^ m = pow-le-pow_right (omega arith) (omega arith) in
    rw (s, pow-succ' 3 (max x (max y z))) (omega arith)

-- the sum of 3 to the level, over the cone of a node, is at most 3 to the node's level
pub cone_by_levels : (gs : List Gate) (ls : List ℕ) (m o : ℕ) → length ls ≡ m
    → sum m (λ j. weight_if (in_cone gs m o j) (3 ^ get_or ls j 0)) ≤ 3 ^ get_or (walk levels ls gs) o 0
unfolding walk sum in_cone
cone_by_levels [] ls m o p = sum_only m o (λ j. 3 ^ get_or ls j 0)
cone_by_levels (g ∷ gs) ls m o p =
    let v = gate_value levels ls g in
    let a = cone_by_levels gs (ls ++ (v ∷ [])) (suc m) o (omega (arith, length_push ls v)) in
    let b = sum_three m (in_cone gs (suc m) o) (in_cone gs (suc m) o m) (node g.first) (node g.second) (node g.third) (λ j. 3 ^ get_or ls j 0) in
    let c = sum_le m (λ j. weight_if (in_cone gs (suc m) o j) (3 ^ get_or ls j 0)) (λ j. weight_if (in_cone gs (suc m) o j) (3 ^ get_or (ls ++ (v ∷ [])) j 0))
    (λ j i. rw (get_or_append_left ls (v ∷ []) 0 j (omega arith)) (omega arith)) in
    let d = weight_if_le (in_cone gs (suc m) o m) (3 ^ get_or ls (node g.first) 0 + 3 ^ get_or ls (node g.second) 0 + 3 ^ get_or ls (node g.third) 0) (3 ^ get_or (ls ++ (v ∷ [])) m 0) top in
    omega arith
  where
    top : 3 ^ get_or ls (node g.first) 0 + 3 ^ get_or ls (node g.second) 0 + 3 ^ get_or ls (node g.third) 0 ≤ 3 ^ get_or (ls ++ (gate_value levels ls g ∷ [])) m 0
    top =
        rw (get_or_push ls (gate_value levels ls g) 0 m p, level_at ls g.first, level_at ls g.second, level_at ls g.third)
        (powers_of_fan_ins (get_or ls (node g.first) 0) (get_or ls (node g.second) 0) (get_or ls (node g.third) 0))
