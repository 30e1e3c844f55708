-- What depends only on the nodes that the codes name: orders, fan-outs, levels.
use Rattle.std.proofs.Common.{◌≡◌, ℕ, ◌+◌, ◌<◌, max, Bool, true, false, cond, eqb, List, [], ◌∷◌, ◌++◌, map, length, get_or, sym, refl, ap, ◌∙◌, subst}
use Rattle.std.proofs.lemmas.List.{length-map}
use Rattle.mig.specs.declared.network.Gate.{Gate}
use Rattle.mig.specs.Networks.{Net, size, node, complemented, value_at, gate_value, walk, levels, Ordered, Formed, uses_in, uses}
use Rattle.mig.specs.Normal.{map_gate, SameNodes}

-- the order, the uses and the levels, from the nodes that the fan-ins name
unfoldable OrderedNodes : ℕ → List Gate → Type 0
OrderedNodes m [] = Unit {0}
OrderedNodes m (g ∷ gs) = ((g.first < m) × (g.second < m) × (g.third < m)) × OrderedNodes (m + 1) gs

unfoldable node_uses : ℕ → List Gate → ℕ
node_uses j [] = 0
node_uses j (g ∷ gs) = (cond (eqb g.first j) 1 0 + cond (eqb g.second j) 1 0 + cond (eqb g.third j) 1 0) + node_uses j gs

unfoldable node_levels : List ℕ → List Gate → List ℕ
node_levels ls [] = ls
node_levels ls (g ∷ gs) = node_levels (ls ++ (1 + max (get_or ls g.first 0) (max (get_or ls g.second 0) (get_or ls g.third 0))) ∷ []) gs

order_to_nodes : (m : ℕ) (gs : List Gate) → Ordered m gs → OrderedNodes m (map (map_gate node) gs)
unfolding Ordered OrderedNodes
order_to_nodes m [] h = tt
order_to_nodes m (g ∷ gs) h = (h.0, order_to_nodes (m + 1) gs h.1)

order_from_nodes : (m : ℕ) (gs : List Gate) → OrderedNodes m (map (map_gate node) gs) → Ordered m gs
unfolding Ordered OrderedNodes
order_from_nodes m [] h = tt
order_from_nodes m (g ∷ gs) h = (h.0, order_from_nodes (m + 1) gs h.1)

uses_by_nodes : (j : ℕ) (gs : List Gate) → uses_in j gs ≡ node_uses j (map (map_gate node) gs)
unfolding uses_in node_uses
uses_by_nodes j [] = refl
uses_by_nodes j (g ∷ gs) = rw (uses_by_nodes j gs)

-- a complement leaves a level
pub level_at : (ls : List ℕ) (c : ℕ) → value_at levels ls c ≡ get_or ls (node c) 0
level_at ls c = at (complemented c)
  where
    at : (b : Bool) → cond b (get_or ls (node c) 0) (get_or ls (node c) 0) ≡ get_or ls (node c) 0
    at true = refl
    at false = refl

levels_by_nodes : (ls : List ℕ) (gs : List Gate) → walk levels ls gs ≡ node_levels ls (map (map_gate node) gs)
unfolding walk node_levels
levels_by_nodes ls [] = refl
levels_by_nodes ls (g ∷ gs) =
    levels_by_nodes (ls ++ gate_value levels ls g ∷ []) gs
    ∙ rw (level_at ls g.first, level_at ls g.second, level_at ls g.third)

pub same_size : (net other : Net) → SameNodes net other → size other ≡ size net
same_size net other s = sym (length-map other.gates (map_gate node)) ∙ ap length s.gates ∙ length-map net.gates (map_gate node)

pub same_formed : (n : ℕ) (net other : Net) → SameNodes net other → Formed n net → Formed n other
same_formed n net other s h =
    record {
      gates = order_from_nodes (n + 1) other.gates (subst (OrderedNodes (n + 1)) (sym s.gates) (order_to_nodes (n + 1) net.gates h.gates));
      output = rw (s.output, same_size net other s) h.output;
    }

-- every node has the same level
pub same_levels : (net other : Net) → SameNodes net other → (ls : List ℕ) → walk levels ls other.gates ≡ walk levels ls net.gates
same_levels net other s ls = levels_by_nodes ls other.gates ∙ ap (node_levels ls) s.gates ∙ sym (levels_by_nodes ls net.gates)

-- every node has the same fan-out
pub same_uses : (net other : Net) → SameNodes net other → (j : ℕ) → uses j other ≡ uses j net
same_uses net other s j =
    let e = uses_by_nodes j other.gates ∙ ap (node_uses j) s.gates ∙ sym (uses_by_nodes j net.gates) in
    rw (s.output, e)

pub same_refl : (net : Net) → SameNodes net net
same_refl net = record { gates = refl; output = refl }

pub same_trans : (net other third : Net) → SameNodes net other → SameNodes other third → SameNodes net third
same_trans net other third s t = record { gates = t.gates ∙ s.gates; output = t.output ∙ s.output }
