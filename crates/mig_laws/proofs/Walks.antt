-- Walks, fan-outs and orders of gates, one list of gates behind another; walks in two kinds.
use Rattle.std.proofs.Common.{◌≡◌, ℕ, zero, suc, ◌+◌, ◌<◌, Bool, true, false, cond, eqb, List, [], ◌∷◌, ◌++◌, map, length, get_or, sym, refl, ap, ◌∙◌, subst, arith}
use lib.Dec.{eqb-suc-zero, eqb-zero-suc, eqb-suc-suc}
use Rattle.mig.specs.declared.network.Gate.{Gate}
use Rattle.mig.specs.Networks.{Net, Kind, node, complemented, value_at, walk, gate_value, output_value, Ordered, uses_in}
use Rattle.std.proofs.lemmas.List.{get_or_append_left, length_push, map_push}

-- an element of a list with one more at its end: for every index
pub get_or-snoc : {A : Type 0} (xs : List A) (x d : A) (j : ℕ) → get_or (xs ++ x ∷ []) j d ≡ cond (eqb j (length xs)) x (get_or xs j d)
get_or-snoc [] x d zero = refl
get_or-snoc [] x d (suc j) = rw eqb-suc-zero
get_or-snoc (y ∷ ys) x d zero = rw eqb-zero-suc
get_or-snoc (y ∷ ys) x d (suc j) = rw eqb-suc-suc (get_or-snoc ys x d j)

-- a walk over two lists of gates is one walk behind the other
pub walk-append : {V : Type 0} (k : Kind V) (vs : List V) (xs ys : List Gate) → walk k vs (xs ++ ys) ≡ walk k (walk k vs xs) ys
unfolding walk
walk-append k vs [] ys = refl
walk-append k vs (g ∷ xs) ys = walk-append k (vs ++ (gate_value k vs g ∷ [])) xs ys

pub length-walk : {V : Type 0} (k : Kind V) (vs : List V) (gs : List Gate) → length (walk k vs gs) ≡ length vs + length gs
unfolding walk
length-walk k vs [] = omega arith
length-walk k vs (g ∷ gs) =
    let e = length-walk k (vs ++ (gate_value k vs g ∷ [])) gs in
    let p = length_push vs (gate_value k vs g) in
    omega arith

-- a walk leaves the values that it begins with
pub walk_keeps : {V : Type 0} (k : Kind V) (vs : List V) (gs : List Gate) (d : V) (j : ℕ) → j < length vs → get_or (walk k vs gs) j d ≡ get_or vs j d
unfolding walk
walk_keeps k vs [] d j h = refl
walk_keeps k vs (g ∷ gs) d j h =
    let v = gate_value k vs g in
    let p = length_push vs v in
    walk_keeps k (vs ++ (v ∷ [])) gs d j (omega arith) ∙ get_or_append_left vs (v ∷ []) d j h

-- later gates leave the values of the earlier nodes
pub walk_earlier : {V : Type 0} (k : Kind V) (vs : List V) (xs ys : List Gate) (d : V) (j : ℕ) → j < length vs + length xs → get_or (walk k vs (xs ++ ys)) j d ≡ get_or (walk k vs xs) j d
walk_earlier k vs xs ys d j h =
    let e = length-walk k vs xs in
    ap (λ us. get_or us j d) (walk-append k vs xs ys) ∙ walk_keeps k (walk k vs xs) ys d j (omega arith)

pub uses_in-append : (j : ℕ) (xs ys : List Gate) → uses_in j (xs ++ ys) ≡ uses_in j xs + uses_in j ys
unfolding uses_in
uses_in-append j [] ys = omega arith
uses_in-append j (g ∷ xs) ys = let e = uses_in-append j xs ys in omega arith

pub ordered_left : (m : ℕ) (xs ys : List Gate) → Ordered m (xs ++ ys) → Ordered m xs
unfolding Ordered
ordered_left m [] ys h = tt
ordered_left m (g ∷ xs) ys h = (h.0, ordered_left (m + 1) xs ys h.1)

pub ordered_right : (m k : ℕ) (xs ys : List Gate) → m + length xs ≡ k → Ordered m (xs ++ ys) → Ordered k ys
unfolding Ordered
ordered_right m k [] ys e h = let q : m ≡ k = omega arith in subst (λ i. Ordered i ys) q h
ordered_right m k (g ∷ xs) ys e h = ordered_right (m + 1) k xs ys (omega arith) h.1

pub ordered_both : (m k : ℕ) (xs ys : List Gate) → m + length xs ≡ k → Ordered m xs → Ordered k ys → Ordered m (xs ++ ys)
unfolding Ordered
ordered_both m k [] ys e h t = let q : k ≡ m = omega arith in subst (λ i. Ordered i ys) q t
ordered_both m k (g ∷ xs) ys e h t = (h.0, ordered_both (m + 1) k xs ys (omega arith) h.1 t)

-- h takes the values of one kind to those of another, and its operations to theirs
pub record Carries {V W : Type 0} (k : Kind V) (l : Kind W) (h : V → W) : Type 0 where
  pub constant : h k.constant ≡ l.constant
  pub complement : (x : V) → h (k.complement x) ≡ l.complement (h x)
  pub majority : (x y z : V) → h (k.majority x y z) ≡ l.majority (h x) (h y) (h z)

get_or-mapped : {V W : Type 0} (h : V → W) (vs : List V) (j : ℕ) (d : V) → get_or (map h vs) j (h d) ≡ h (get_or vs j d)
get_or-mapped h [] j d = refl
get_or-mapped h (v ∷ vs) zero d = refl
get_or-mapped h (v ∷ vs) (suc j) d = get_or-mapped h vs j d

value_carried : {V W : Type 0} (k : Kind V) (l : Kind W) (h : V → W) → Carries k l h → (vs : List V) (c : ℕ) → value_at l (map h vs) c ≡ h (value_at k vs c)
value_carried k l h e vs c =
    rw (sym e.constant, get_or-mapped h vs (node c) k.constant) (at (complemented c))
  where
    at : (b : Bool) → cond b (l.complement (h (get_or vs (node c) k.constant))) (h (get_or vs (node c) k.constant)) ≡ h (cond b (k.complement (get_or vs (node c) k.constant)) (get_or vs (node c) k.constant))
    at true = sym (e.complement (get_or vs (node c) k.constant))
    at false = refl

gate_carried : {V W : Type 0} (k : Kind V) (l : Kind W) (h : V → W) → Carries k l h → (vs : List V) (g : Gate) → gate_value l (map h vs) g ≡ h (gate_value k vs g)
gate_carried k l h e vs g =
    let x = value_carried k l h e vs g.first in
    let y = value_carried k l h e vs g.second in
    let z = value_carried k l h e vs g.third in
    let m = e.majority (value_at k vs g.first) (value_at k vs g.second) (value_at k vs g.third) in
    cc

-- the walk in the one kind is carried to the walk in the other
walk_carried : {V W : Type 0} (k : Kind V) (l : Kind W) (h : V → W) → Carries k l h → (vs : List V) (gs : List Gate) → walk l (map h vs) gs ≡ map h (walk k vs gs)
unfolding walk
walk_carried k l h e vs [] = refl
walk_carried k l h e vs (g ∷ gs) =
    ap (λ us. walk l us gs) (ap (λ v. map h vs ++ (v ∷ [])) (gate_carried k l h e vs g) ∙ sym (map_push h vs (gate_value k vs g)))
    ∙ walk_carried k l h e (vs ++ (gate_value k vs g ∷ [])) gs

pub output_carried : {V W : Type 0} (k : Kind V) (l : Kind W) (h : V → W) → Carries k l h → (vs : List V) (net : Net) → output_value l (map h vs) net ≡ h (output_value k vs net)
output_carried k l h e vs net = rw (walk_carried k l h e vs net.gates) (value_carried k l h e (walk k vs net.gates) net.output)

-- a property that complements keep holds of what a code stands for, if it holds of every node
value_keeps_property : {V : Type 0} (k : Kind V) (P : V → Type 0) → ((x : V) → P x → P (k.complement x))
    → (vs : List V) → ((j : ℕ) → P (get_or vs j k.constant)) → (c : ℕ) → P (value_at k vs c)
value_keeps_property {V} k P flips vs h c = at (complemented c) (get_or vs (node c) k.constant) (h (node c))
  where
    at : (b : Bool) (v : V) → P v → P (cond b (k.complement v) v)
    at true v p = flips v p
    at false v p = p

-- a property that complements and majorities keep holds of the output, if it holds of the constant and the inputs
pub walk_keeps_property : {V : Type 0} (k : Kind V) (P : V → Type 0)
    → ((x : V) → P x → P (k.complement x)) → ((x y z : V) → P x → P y → P z → P (k.majority x y z))
    → (vs : List V) → ((j : ℕ) → P (get_or vs j k.constant))
    → (gs : List Gate) (c : ℕ) → P (value_at k (walk k vs gs) c)
unfolding walk
walk_keeps_property k P flips joins vs h [] c = value_keeps_property k P flips vs h c
walk_keeps_property {V} k P flips joins vs h (g ∷ gs) c =
    let x = value_keeps_property k P flips vs h g.first in
    let y = value_keeps_property k P flips vs h g.second in
    let z = value_keeps_property k P flips vs h g.third in
    let v = joins (value_at k vs g.first) (value_at k vs g.second) (value_at k vs g.third) x y z in
    walk_keeps_property k P flips joins (vs ++ gate_value k vs g ∷ [])
    (λ j. subst P (sym (get_or-snoc vs (gate_value k vs g) k.constant j)) (pick (eqb j (length vs)) (h j) v)) gs c
  where
    pick : {u v : V} (b : Bool) → P v → P u → P (cond b u v)
    pick true p q = q
    pick false p q = p
