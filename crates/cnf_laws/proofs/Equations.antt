-- The walk over a network solves the equations of its gates.
use Rattle.std.proofs.Common.{◌≡◌, ℕ, zero, suc, ◌+◌, ◌-◌, ◌<◌, cond, List, [], ◌∷◌, ◌++◌, length, get_or, sym, ap, subst, ◌∙◌, arith}
use Rattle.std.proofs.lemmas.List.{length_push, get_or_push}
use Rattle.mig.specs.declared.network.Gate.{Gate}
use Rattle.mig.specs.Networks.{Net, Kind, size, node, complemented, empty_gate, value_at, gate_value, walk, GateBelow, Ordered, Formed}
use Rattle.mig.specs.Questions.{row_start}
use Rattle.mig_laws.proofs.Walks.{walk_keeps}
use Rattle.mig_laws.proofs.Steps.{ordered_at}
use Rattle.mig_laws.proofs.RowBits.{length-input_bits}
use Rattle.cnf.specs.Meaning.{gate_of_node}

pub length-row_start : (n t : ℕ) → length (row_start n t) ≡ n + 1
length-row_start n t = omega (arith, length-input_bits n t)

module _ {V : Type 0} (k : Kind V) where
  -- a walk leaves what a code of an earlier node stands for
  pub value_kept : (vs : List V) (gs : List Gate) (c : ℕ) → node c < length vs → value_at k (walk k vs gs) c ≡ value_at k vs c
  value_kept vs gs c h = ap (λ v. cond (complemented c) (k.complement v) v) (walk_keeps k vs gs k.constant (node c) h)

  gate_kept : (vs : List V) (gs : List Gate) (g : Gate) → GateBelow (length vs) g → gate_value k (walk k vs gs) g ≡ gate_value k vs g
  gate_kept vs gs g h =
      let x = value_kept vs gs g.first h.0 in
      let y = value_kept vs gs g.second h.1 in
      let z = value_kept vs gs g.third h.2 in
      cc

  walk_at : (m : ℕ) (vs : List V) (gs : List Gate) → length vs ≡ m → Ordered m gs → (p i : ℕ) (d : V) → p < length gs → m + p ≡ i
      → get_or (walk k vs gs) i d ≡ gate_value k (walk k vs gs) (get_or gs p empty_gate)
  unfolding walk Ordered
  walk_at m vs [] h o p i d l q = absurd (omega arith)
  walk_at m vs (g ∷ gs) h o zero i d l q =
      let v = gate_value k vs g in
      let e = length_push vs v in
      let below : GateBelow (length vs) g = subst (λ x. GateBelow x g) (sym h) o.0 in
      walk_keeps k (vs ++ v ∷ []) gs d i (omega arith) ∙ get_or_push vs v d i (omega arith) ∙ sym (gate_kept vs (g ∷ gs) g below)
  walk_at m vs (g ∷ gs) h o (suc p) i d l q =
      let e = length_push vs (gate_value k vs g) in
      walk_at (m + 1) (vs ++ gate_value k vs g ∷ []) gs (omega arith) o.1 p i d (omega arith) (omega arith)

  -- the value of a gate is the majority of its fan-ins' values
  pub gate_equation : (n : ℕ) (net : Net) (vs : List V) (i : ℕ) (d : V) → length vs ≡ n + 1 → Formed n net → n < i → i < suc n + size net
      → get_or (walk k vs net.gates) i d ≡ gate_value k (walk k vs net.gates) (gate_of_node n net i)
  gate_equation n net vs i d h f a b = walk_at (n + 1) vs net.gates h f.gates (i - suc n) i d (omega arith) (omega arith)

-- each gate's codes name earlier nodes
pub gate_below : (n : ℕ) (net : Net) (i : ℕ) → Formed n net → n < i → i < suc n + size net → GateBelow i (gate_of_node n net i)
gate_below n net i f a b =
    let e : n + 1 + (i - suc n) ≡ i = omega arith in
    subst (λ x. GateBelow x (gate_of_node n net i)) e (ordered_at (n + 1) (i - suc n) net.gates f.gates (omega arith))
