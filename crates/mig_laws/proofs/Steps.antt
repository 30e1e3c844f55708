-- One step of a walk that writes its values into a row of places.
use Rattle.std.proofs.Common.{◌≡◌, ℕ, zero, suc, ◌+◌, ◌<◌, ◌≤◌, cond, List, [], ◌∷◌, ◌++◌, length, get_or, take, drop, set, sym, ap, ◌∙◌, subst, ap₂, add_assoc, arith}
use Rattle.std.proofs.lemmas.List.{append_assoc, take_more, drop_more, set_at, get_or_append_left, length-take-le}
use Rattle.mig.specs.declared.network.Gate.{Gate}
use Rattle.mig.specs.Networks.{Kind, node, complemented, empty_gate, value_at, gate_value, walk, GateBelow, Ordered}
use Rattle.mig_laws.proofs.Walks.{walk-append, length-walk}

-- the gate at place i names nodes below m + i
pub ordered_at : (m i : ℕ) (gs : List Gate) → Ordered m gs → i < length gs → GateBelow (m + i) (get_or gs i empty_gate)
unfolding Ordered
ordered_at m i [] h l = absurd (omega arith)
ordered_at m zero (g ∷ gs) h l = let e : m ≡ m + 0 = omega arith in subst (λ (k : ℕ). GateBelow k g) e h.0
ordered_at m (suc i) (g ∷ gs) h l =
    let e : (m + 1) + i ≡ m + suc i = omega arith in
    subst (λ (k : ℕ). GateBelow k (get_or gs i empty_gate)) e (ordered_at (m + 1) i gs h.1 (omega arith))

-- a code of a node in front stands for the same, whatever is behind
pub value_front : {V : Type 0} (k : Kind V) (us ws : List V) (c : ℕ) → node c < length us → value_at k (us ++ ws) c ≡ value_at k us c
value_front k us ws c h = ap (λ v. cond (complemented c) (k.complement v) v) (get_or_append_left us ws k.constant (node c) h)

gate_front : {V : Type 0} (k : Kind V) (us ws : List V) (g : Gate) → GateBelow (length us) g → gate_value k (us ++ ws) g ≡ gate_value k us g
gate_front k us ws g h =
    let x = value_front k us ws g.first h.0 in
    let y = value_front k us ws g.second h.1 in
    let z = value_front k us ws g.third h.2 in
    cc

-- the walk over one gate more
walk_more : {V : Type 0} (k : Kind V) (vs : List V) (gs : List Gate) (i : ℕ) → i < length gs
    → walk k vs (take (i + 1) gs) ≡ walk k vs (take i gs) ++ gate_value k (walk k vs (take i gs)) (get_or gs i empty_gate) ∷ []
unfolding walk
walk_more k vs gs i h = ap (walk k vs) (take_more gs i empty_gate h) ∙ walk-append k vs (take i gs) (get_or gs i empty_gate ∷ [])

-- the value of gate i, written behind the values of the nodes before it
pub walk_writes : {V : Type 0} (k : Kind V) (m i : ℕ) (gs : List Gate) (start values : List V) (v : V)
    → Ordered m gs → i < length gs → m + length gs ≤ length start
    → values ≡ walk k (take m start) (take i gs) ++ drop (m + i) start
    → v ≡ gate_value k values (get_or gs i empty_gate)
    → set values (m + i) v ≡ walk k (take m start) (take (i + 1) gs) ++ drop (m + (i + 1)) start
walk_writes k m i gs start values v o h l e w =
    let us = walk k (take m start) (take i gs) in
    let long : length us ≡ m + i = length-walk k (take m start) (take i gs) ∙ ap₂ (λ (a b : ℕ). a + b) (length-take-le m start (omega arith)) (length-take-le i gs (omega arith)) in
    let b : m + i < length start = omega arith in
    let rest : drop (m + i) start ≡ get_or start (m + i) k.constant ∷ drop (m + i + 1) start = drop_more start (m + i) k.constant b in
    let g : GateBelow (length us) (get_or gs i empty_gate) = subst (λ (j : ℕ). GateBelow j (get_or gs i empty_gate)) (sym long) (ordered_at m i gs o h) in
    let u : v ≡ gate_value k us (get_or gs i empty_gate) = w ∙ ap (λ vs. gate_value k vs (get_or gs i empty_gate)) e ∙ gate_front k us (drop (m + i) start) (get_or gs i empty_gate) g in
    ap₂ (λ vs x. set vs (m + i) x) (e ∙ ap (λ ws. us ++ ws) rest) u
    ∙ set_at us (get_or start (m + i) k.constant) (drop (m + i + 1) start) (gate_value k us (get_or gs i empty_gate)) (m + i) long
    ∙ sym (append_assoc us (gate_value k us (get_or gs i empty_gate) ∷ []) (drop (m + i + 1) start))
    ∙ ap₂ (λ xs (j : ℕ). xs ++ drop j start) (sym (walk_more k (take m start) gs i h)) (add_assoc m i 1)
