-- The read-back of a satisfying assignment is well-formed and computes the table.
use Rattle.std.proofs.Common.{◌≡◌, ℕ, zero, suc, ◌+◌, ◌-◌, ◌^◌, ◌<◌, ◌≤◌, Bool, true, false, cond, leb, List, length, get_or, refl, sym, ap, subst, ◌∙◌, inl, inr, arith}
use Rattle.std.proofs.lemmas.Bool.{cases_lt, le-leb, lt-leb}
use Rattle.mig.specs.Networks.{Kind, node, value_at, gate_value, walk, bits, empty_gate, GateBelow, Ordered, Formed}
use Rattle.mig.specs.Tables.{bit_at}
use Rattle.mig.specs.Questions.{row_start, Computes}
use Rattle.mig_laws.proofs.Walks.{walk_keeps}
use Rattle.cnf.specs.Variables.{S, N, A, B, O, Q}
use Rattle.cnf.specs.Clauses.{given, fan_ins_chosen, fan_in_values, output_chosen}
use Rattle.cnf.specs.Meaning.{Assignment, Satisfies, pick, read_code, read_gate, read_gates, read_net, gate_of_node}
use Rattle.cnf_laws.proofs.Satisfied.{satisfies_at}
use Rattle.cnf_laws.proofs.ExactlyOne.{PicksOnly, picks_only}
use Rattle.cnf_laws.proofs.Values.{turn, fan_in_says, gate_says, output_says}
use Rattle.cnf_laws.proofs.Codes.{node-code, value-code}
use Rattle.cnf_laws.proofs.Equations.{length-row_start, gate_equation}
use Rattle.cnf_laws.proofs.Groups.{SatisfiesGroups}

pub length-read_gates : (s : Assignment) (i r : ℕ) → length (read_gates s i r) ≡ r
unfolding read_gates
length-read_gates s i zero = refl
length-read_gates s i (suc r) = ap suc (length-read_gates s (suc i) r)

pub read_gates_at : (s : Assignment) (i r p q : ℕ) → p < r → i + p ≡ q → get_or (read_gates s i r) p empty_gate ≡ read_gate s q
unfolding read_gates
read_gates_at s i zero p q l h = absurd (omega arith)
read_gates_at s i (suc r) zero q l h = ap (read_gate s) (omega arith)
read_gates_at s i (suc r) (suc p) q l h = read_gates_at s (suc i) r p q (omega arith) (omega arith)

-- the gate i of the read-back
pub gate_of_read_net : (n r : ℕ) (s : Assignment) (i : ℕ) → n < i → i < suc n + r → gate_of_node n (read_net n r s) i ≡ read_gate s i
gate_of_read_net n r s i a b = read_gates_at s (suc n) r (i - suc n) i (omega arith) (omega arith)

read_gates_ordered : (s : Assignment) (i r m : ℕ) → i ≡ m
    → ((k : ℕ) → i ≤ k → k < i + r → GateBelow k (read_gate s k)) → Ordered m (read_gates s i r)
unfolding read_gates Ordered
read_gates_ordered s i zero m e h = tt
read_gates_ordered s i (suc r) m e h = (
  subst (λ x. GateBelow x (read_gate s i)) e (h i (omega arith) (omega arith)),
  read_gates_ordered s (suc i) r (m + 1) (omega arith) (λ k a b. h k (omega arith) (omega arith)),
)

module _ (n r : ℕ) (s : Assignment) where
  pub fan_in_picked : Satisfies s (fan_ins_chosen n r) → (i c : ℕ) → n < i → i < suc n + r → 1 ≤ c → c < 4 → PicksOnly i (λ j. s (S i c j))
  fan_in_picked h i c a b l u = picks_only s i (S i c) (satisfies_at s 1 3 _ (satisfies_at s (suc n) r _ h i a b) c l (omega arith))

  fan_in_below : Satisfies s (fan_ins_chosen n r) → (i c : ℕ) → n < i → i < suc n + r → 1 ≤ c → c < 4 → node (read_code s i c) < i
  fan_in_below h i c a b l u =
      let w = fan_in_picked h i c a b l u in
      rw (node-code (pick i (λ j. s (S i c j))) (s (N i c))) w.below

  pub output_picked : Satisfies s (output_chosen n r) → PicksOnly (suc n + r) (λ j. s (O j))
  output_picked h = picks_only s (suc n + r) O h

  pub read_net_formed : Satisfies s (fan_ins_chosen n r) → Satisfies s (output_chosen n r) → Formed n (read_net n r s)
  read_net_formed h g =
      let w = output_picked g in
      record {
        gates =
            read_gates_ordered s (suc n) r (n + 1) (omega arith) (λ k a b. (
              fan_in_below h k 1 a b (omega arith) (omega arith),
              fan_in_below h k 2 a b (omega arith) (omega arith),
              fan_in_below h k 3 a b (omega arith) (omega arith),
            ));
        output = rw (node-code (pick (suc n + r) (λ j. s (O j))) (s Q)) (omega (arith, w.below, length-read_gates s (suc n) r));
      }

  -- the value of a gate of the read-back is the majority of its fan-ins' values
  pub read_equation : {V : Type 0} (k : Kind V) (vs : List V) (i : ℕ) (d : V) → length vs ≡ n + 1 → Formed n (read_net n r s) → n < i → i < suc n + r
      → get_or (walk k vs (read_gates s (suc n) r)) i d ≡ gate_value k (walk k vs (read_gates s (suc n) r)) (read_gate s i)
  read_equation k vs i d h f a b =
      gate_equation k n (read_net n r s) vs i d h f a (omega (arith, length-read_gates s (suc n) r))
      ∙ ap (gate_value k (walk k vs (read_gates s (suc n) r))) (gate_of_read_net n r s i a b)

  -- the value of the node j in row t, as the variables have it
  abbrev said_value : ℕ → ℕ → Bool
  said_value t j = cond (leb j n) (given n t j) (s (B j t))

  fan_in_value : Satisfies s (fan_in_values n r) → (i c j t : ℕ) → n < i → i < suc n + r → 1 ≤ c → c < 4 → j < i → t < 2 ^ n
      → s (S i c j) ≡ true → s (A i c t) ≡ turn (s (N i c)) (said_value t j)
  fan_in_value h i c j t a b l u w z =
      fan_in_says s i c j t (leb j n) (given n t j)
      (satisfies_at s 0 (2 ^ n) _ (satisfies_at s 0 i _ (satisfies_at s 1 3 _ (satisfies_at s (suc n) r _ h i a b) c l (omega arith)) j (omega arith) (omega arith)) t (omega arith) (omega arith))

module _ (n table d f r : ℕ) (s : Assignment) (h : SatisfiesGroups n table d f r s) (t : ℕ) (below : t < 2 ^ n) where
  abbrev values : List Bool
  values = walk bits (row_start n t) (read_gates s (suc n) r)

  code_value : (i c : ℕ) → n < i → i < suc n + r → 1 ≤ c → c < 4
      → ((j : ℕ) → j < i → get_or values j false ≡ said_value n r s t j) → value_at bits values (read_code s i c) ≡ s (A i c t)
  code_value i c a b l u ih =
      let w = fan_in_picked n r s h.fan_ins i c a b l u in
      value-code bits values (pick i (λ j. s (S i c j))) (s (N i c))
      ∙ (ap (turn (s (N i c))) (ih _ w.below)
      ∙ sym (fan_in_value n r s h.fan_in_bits i c _ t a b l u w.below below w.passes))

  gate_bit : (i : ℕ) → n < i → i < suc n + r → ((j : ℕ) → j < i → get_or values j false ≡ said_value n r s t j)
      → get_or values i false ≡ said_value n r s t i
  gate_bit i a b ih =
      let x = code_value i 1 a b (omega arith) (omega arith) ih in
      let y = code_value i 2 a b (omega arith) (omega arith) ih in
      let z = code_value i 3 a b (omega arith) (omega arith) ih in
      read_equation n r s bits (row_start n t) i false (length-row_start n t) (read_net_formed n r s h.fan_ins h.output) a b
      ∙ rw (x, y, z) (gate_says s i t (satisfies_at s 0 (2 ^ n) _ (satisfies_at s (suc n) r _ h.gate_bits i a b) t (omega arith) (omega arith)))
      ∙ sym (ap (λ b'. cond b' (given n t i) (s (B i t))) (lt-leb i n a))

  -- each node below m has the value that the variables have
  row_values : (m j : ℕ) → j < m → j < suc n + r → get_or values j false ≡ said_value n r s t j
  row_values zero j l u = absurd (omega arith)
  row_values (suc m) j l u =
      elim (cases_lt n j) [
        | inl b ↦ gate_bit j b u (λ k v. row_values m k (omega arith) (omega arith))
        | inr b ↦
            walk_keeps bits (row_start n t) (read_gates s (suc n) r) false j (omega (arith, length-row_start n t))
            ∙ sym (ap (λ b'. cond b' (given n t j) (s (B j t))) (le-leb j n b))
      ]

  output_bit : value_at bits values (read_net n r s).output ≡ bit_at table t
  output_bit =
      let w = output_picked n r s h.output in
      let o : ℕ = pick (suc n + r) (λ j. s (O j)) in
      value-code bits values o (s Q)
      ∙ (ap (turn (s Q)) (row_values (suc n + r) o w.below w.below)
      ∙ output_says s o t (leb o n) (given n t o) (bit_at table t)
      (satisfies_at s 0 (2 ^ n) _ (satisfies_at s 0 (suc n + r) _ h.table_bits o (omega arith) (omega (arith, w.below))) t (omega arith) (omega arith)) w.passes)

pub read_net_computes : (n table d f r : ℕ) (s : Assignment) → SatisfiesGroups n table d f r s → Computes n table (read_net n r s)
read_net_computes n table d f r s h t below = output_bit n table d f r s h t below
