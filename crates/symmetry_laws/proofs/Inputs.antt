-- A network whose inputs are named out of order has another one with lower keys, in which two inputs are exchanged.
use Rattle.std.proofs.Common.{◌≡◌, ℕ, zero, suc, ◌+◌, ◌*◌, ◌/◌, ◌%◌, ◌^◌, ◌<◌, ◌≤◌, Bool, true, false, eqb, T, ◌⊎◌, List, [], ◌∷◌, map, length, get_or, refl, sym, ap, ◌∙◌, subst, inl, inr, arith, zero-add}
use lib.ListN.{length-map}
use Rattle.std.specs.List.{AllByRecursion as All}
use Rattle.std.proofs.ByRecursion.{All-get_or, All-weaker, All-map}
use Rattle.std.specs.Bool.{beq}
use Rattle.std.proofs.lemmas.Nat.{pow_below, pow_pos}
use Rattle.std.proofs.lemmas.Bool.{true_from_ne_false, eq-eqb, ne_eqb, cases_lt, cases_eq}
use Rattle.std.proofs.lemmas.Bool.Decides.{nat_tests}
use Rattle.mig.specs.declared.network.Gate.{Gate}
use Rattle.mig.specs.declared.question.Question.{Question}
use Rattle.mig.specs.Networks.{Net, size, node, complemented, names, empty_gate, value_at, bits}
use Rattle.mig.specs.Normal.{gate_at, complements, map_gate, Normal}
use Rattle.mig.specs.Questions.{row_start, Meets}
use Rattle.mig.specs.Tables.{bit_at}
use Rattle.mig_laws.proofs.Decisions.{decides_beq}
use Rattle.mig_laws.proofs.RowBits.{get_or-input_bits}
use Rattle.mig_laws.proofs.Tables.{bit_at_table, table_below}
use Rattle.class_laws.specs.Renaming.{complement_by, rename, rename_gate, rename_net}
use Rattle.class_laws.proofs.Small.{below}
use Rattle.class_laws.proofs.Renamed.{Renumbering, Correspondence, transfer}
use Rattle.canonical_laws.specs.Canonical.{CanonicalGate, Canonical}
use Rattle.canonical_laws.proofs.Gates.{gate_uses, weight, canonical_of_replaces}
use Rattle.canonical_laws.proofs.Renumbered.{renumber, renumber_gate, node-renumber}
use Rattle.canonical_laws.proofs.Exist.{all_or_one, canonical_gates, canonical_gates_meets, canonical_gates_canonical}
use Rattle.canonical_laws.proofs.Neighbours.{key_bound, keys_below, key_number, number_less, LowerKeys, Lower, all_canonical_from}
use Rattle.symmetry_laws.specs.Inputs.{exchange, exchanged_row, symmetric_in}

-- the key of a gate: its nodes as the bits of a number
abbrev pub nodes_key : Gate → ℕ
nodes_key g = weight (λ j. 2 ^ j) g

-- one of the gates up to gate i, counted from 0, names the input a
abbrev pub NamedUpTo : Net → ℕ → ℕ → Type 0
NamedUpTo net a i = (k : ℕ) × (k ≤ i) × (1 ≤ gate_uses (suc a) (gate_at net k))

-- of two inputs in which the table is symmetric, no gate names the later before one that names the earlier
abbrev pub InputsInOrder : ℕ → ℕ → Net → Type 0
InputsInOrder n f net =
    (a b i : ℕ) → a < b → b < n → symmetric_in n f a b ≡ true → i < size net → 1 ≤ gate_uses (suc b) (gate_at net i) → NamedUpTo net a i

-- the codes of the nodes, where the inputs a and b change places
abbrev exchanged_code : ℕ → ℕ → ℕ → ℕ
exchanged_code a b j = 2 * exchange (suc a) (suc b) j

-- the network with the inputs a and b exchanged, and its gates made canonical
abbrev exchanged_net : ℕ → ℕ → Net → Net
exchanged_net a b net = canonical_gates (rename_net (exchanged_code a b) 0 net)

module _ (n a b : ℕ) (l : a < b) (m : b < n) where
  exchanged_renumbering : Renumbering (n + 1) (n + 1) (exchanged_code a b)
  exchanged_renumbering =
      record {
        low = λ j h. grind (arith, nat_tests);
        high = λ j h. grind (arith, nat_tests);
      }

  plain_value : (vs : List Bool) (j : ℕ) → value_at bits vs (2 * j) ≡ get_or vs j false
  plain_value vs j = let e : (2 * j) / 2 ≡ j = omega arith in rw (ne_eqb ((2 * j) % 2) 1 (omega arith), e) refl

  exchanged_inputs : (t j : ℕ) → t < 2 ^ n → j < n + 1 → value_at bits (row_start n t) (exchanged_code a b j) ≡ get_or (row_start n (exchanged_row n a b t)) j false
  exchanged_inputs t zero h q =
      let e : exchange (suc a) (suc b) 0 ≡ 0 = grind (arith, nat_tests) in
      ap (λ (x : ℕ). value_at bits (row_start n t) (2 * x)) e ∙ plain_value (row_start n t) 0
  exchanged_inputs t (suc c) h q =
      let e : exchange (suc a) (suc b) (suc c) ≡ suc (exchange a b c) = grind (arith, nat_tests) in
      let s : exchange a b c < n = grind (arith, nat_tests) in
      ap (λ (x : ℕ). value_at bits (row_start n t) (2 * x)) e
      ∙ plain_value (row_start n t) (suc (exchange a b c))
      ∙ get_or-input_bits n t (exchange a b c) s
      ∙ ap (λ (x : ℕ). bit_at t (exchange a b x)) (sym (zero-add c))
      ∙ sym (bit_at_table n 0 (λ x. bit_at t (exchange a b x)) c (omega arith))
      ∙ sym (get_or-input_bits n (exchanged_row n a b t) c (omega arith))

  -- a question of a table that is symmetric in both inputs corresponds to itself
  exchanged_correspondence : (f : ℕ) → symmetric_in n f a b ≡ true → Correspondence n n f f 0 (exchanged_code a b) (exchanged_row n a b)
  exchanged_correspondence f s =
      record {
        renumbering = exchanged_renumbering;
        within = λ t h. table_below n 0 (λ c. bit_at t (exchange a b c));
        inputs = exchanged_inputs;
        values = λ t h.
            let row = λ (u : ℕ). beq (bit_at f (exchanged_row n a b u)) (bit_at f u) in
            (decides_beq (bit_at f (exchanged_row n a b t)) (bit_at f t)).0 (true_from_ne_false (row t) (λ e. subst T e (below (2 ^ n) row (subst T (sym s) tt) t h)));
      }

module _ (a b : ℕ) (l : a < b) where
  abbrev exchanged_gate : Gate → Gate
  exchanged_gate g = renumber_gate (λ j. j) (rename_gate (exchanged_code a b) g)

  exchanged_node : (c : ℕ) → node (renumber (λ j. j) (rename (exchanged_code a b) c)) ≡ exchange (suc a) (suc b) (node c)
  exchanged_node c = node-renumber (λ j. j) (rename (exchanged_code a b) c) ∙ half (exchange (suc a) (suc b) (node c))
    where
      half : (e : ℕ) → node (complement_by c (2 * e)) ≡ e
      half e = omega arith

  exchanged_complemented : (c : ℕ) → complemented (rename (exchanged_code a b) c) ≡ complemented c
  exchanged_complemented c = ap (λ (x : ℕ). eqb x 1) (odd (exchange (suc a) (suc b) (node c)))
    where
      odd : (e : ℕ) → complement_by c (2 * e) % 2 ≡ c % 2
      odd e = omega arith

  -- a code that does not name a weighs less if it names b
  code_lighter : (c : ℕ) → names (suc a) c ≡ 0 → 2 ^ node (renumber (λ j. j) (rename (exchanged_code a b) c)) + names (suc b) c ≤ 2 ^ node c
  code_lighter c h =
      rw (exchanged_node c) (at (cases_eq (node c) (suc a)) (cases_eq (node c) (suc b)))
    where
      at : (node c ≡ suc a) ⊎ (node c ≡ suc a → ⊥) → (node c ≡ suc b) ⊎ (node c ≡ suc b → ⊥) → 2 ^ exchange (suc a) (suc b) (node c) + names (suc b) c ≤ 2 ^ node c
      at (inl e) d = absurd (omega (arith, h, one_named e))
        where
          one_named : node c ≡ suc a → names (suc a) c ≡ 1
          one_named e = rw (eq-eqb (node c) (suc a) e) refl
      at (inr d) (inl e) = rw (ne_eqb (node c) (suc a) d, eq-eqb (node c) (suc b) e, e) (omega (arith, pow_below (suc a) (suc b) (omega arith)))
      at (inr d) (inr e) = rw (ne_eqb (node c) (suc a) d, ne_eqb (node c) (suc b) e) (omega arith)

  gate_lighter : (g : Gate) → gate_uses (suc a) g ≡ 0 → nodes_key (exchanged_gate g) + gate_uses (suc b) g ≤ nodes_key g
  gate_lighter g h =
      omega (
        arith,
        (canonical_of_replaces (map_gate (renumber (λ j. j)) (rename_gate (exchanged_code a b) g))).lighter (λ j. 2 ^ j) (λ j. pow_pos j),
        code_lighter g.first (omega arith),
        code_lighter g.second (omega arith),
        code_lighter g.third (omega arith),
      )

  -- the gates with both inputs exchanged
  abbrev exchanged_gates : List Gate → List Gate
  exchanged_gates gs = map (renumber_gate (λ j. j)) (map (rename_gate (exchanged_code a b)) gs)

  front_lower : (base acc : ℕ) (g : Gate) (gs : List Gate) → nodes_key (exchanged_gate g) < nodes_key g → All (λ g. nodes_key g < base) (exchanged_gates gs)
      → key_number nodes_key base (acc * base + nodes_key (exchanged_gate g)) (exchanged_gates gs) < key_number nodes_key base (acc * base + nodes_key g) gs
  front_lower base acc g gs less p =
      number_less nodes_key base (acc * base + nodes_key (exchanged_gate g)) (acc * base + nodes_key g) (exchanged_gates gs) gs
      (length-map (map (rename_gate (exchanged_code a b)) gs) (renumber_gate (λ j. j)) ∙ length-map gs (rename_gate (exchanged_code a b))) p (omega arith)

  -- where a gate names b, and no gate up to it names a, the keys make a lower number
  keys_lower : (base acc : ℕ) (gs : List Gate) (i : ℕ) → i < length gs → ((k : ℕ) → k ≤ i → gate_uses (suc a) (get_or gs k empty_gate) ≡ 0)
      → 1 ≤ gate_uses (suc b) (get_or gs i empty_gate) → All (λ g. nodes_key g < base) (exchanged_gates gs)
      → key_number nodes_key base acc (exchanged_gates gs) < key_number nodes_key base acc gs
  unfolding key_number
  keys_lower base acc [] i h none some p = absurd (omega arith)
  keys_lower base acc (g ∷ gs) zero h none some p = front_lower base acc g gs (omega (arith, gate_lighter g (none 0 (omega arith)))) p.1
  keys_lower base acc (g ∷ gs) (suc i) h none some p =
      elim (cases_lt (nodes_key (exchanged_gate g)) (nodes_key g)) [
        | inl less ↦ front_lower base acc g gs less p.1
        | inr more ↦
            let e : nodes_key (exchanged_gate g) ≡ nodes_key g = omega (arith, gate_lighter g (none 0 (omega arith))) in
            subst (λ (x : ℕ). key_number nodes_key base (acc * base + x) (exchanged_gates gs) < key_number nodes_key base (acc * base + nodes_key g) gs) (sym e)
            (keys_lower base (acc * base + nodes_key g) gs i (omega arith) (λ k m. none (suc k) (omega arith)) some p.1)
      ]

-- where gates name inputs out of order: the table is symmetric in a and b, gate i names b, and no gate up to it names a
record OutOfOrder (n f : ℕ) (net : Net) (a b i : ℕ) : Type 0 where
  pub symmetric : symmetric_in n f a b ≡ true
  pub later : 1 ≤ gate_uses (suc b) (gate_at net i)
  pub no_earlier : (k : ℕ) → k ≤ i → gate_uses (suc a) (gate_at net k) ≡ 0

-- with the two inputs exchanged, the keys make a lower number
exchanged_lower : (q : Question) (net : Net) (a b i : ℕ) → a < b → b < q.inputs → i < size net → OutOfOrder q.inputs q.table net a b i → Meets q net → Canonical q.inputs net
    → LowerKeys nodes_key (key_bound nodes_key (q.inputs + 1 + size net)) q net (exchanged_net a b net)
exchanged_lower q net a b i l m h out meets canonical =
    record {
      meets = other_meets;
      gates = canonical_gates_canonical renamed normal;
      as_large = as_large;
      lower =
          keys_lower a b l (key_bound nodes_key (n + 1 + size net)) 0 net.gates i h out.no_earlier out.later
          (keys_below nodes_key (n + 1) (n + 1 + size net) (exchanged_net a b net).gates other_meets.formed.gates (omega (arith, as_large)));
    }
  where
    n : ℕ
    n = q.inputs

    renamed : Net
    renamed = rename_net (exchanged_code a b) 0 net

    other_meets : Meets q (exchanged_net a b net)
    other_meets = canonical_gates_meets q renamed (transfer q.limits net (exchanged_correspondence n a b l m q.table out.symmetric) meets)

    as_large : size (exchanged_net a b net) ≡ size net
    as_large = length-map renamed.gates (renumber_gate (λ j. j)) ∙ length-map net.gates (rename_gate (exchanged_code a b))

    few : All (λ g. complements g ≤ 1) renamed.gates
    few =
        All-map (λ g. complements g ≤ 1) (rename_gate (exchanged_code a b)) net.gates
        (All-weaker (CanonicalGate 0) _
        (λ g c. rw (exchanged_complemented a b l g.first, exchanged_complemented a b l g.second, exchanged_complemented a b l g.third) c.once)
        net.gates (all_canonical_from (n + 1) net.gates canonical.gates))

    normal : Normal renamed
    normal = λ k r. All-get_or (λ g. complements g ≤ 1) renamed.gates k empty_gate r few

-- the inputs are in order, or the keys of another network make a lower number
pub inputs_or_lower : (q : Question) (net : Net) → Meets q net → Canonical q.inputs net → InputsInOrder q.inputs q.table net ⊎ Lower nodes_key q net
inputs_or_lower q net meets canonical =
    elim (all_or_one (λ a. (b : ℕ) → a < b → b < n → PairInOrder a b) (λ a. (b : ℕ) × (b < n) × Out a b) n (λ a h. of_first a)) [
      | inl o ↦ inl (λ a b i l m s. o a (omega arith) b l m s i)
      | inr (a, h, (b, m, (l, (i, r, out)))) ↦ inr (exchanged_net a b net, exchanged_lower q net a b i l m r out meets canonical)
    ]
  where
    n : ℕ
    n = q.inputs

    PairInOrder : ℕ → ℕ → Type 0
    PairInOrder a b = symmetric_in n q.table a b ≡ true → (i : ℕ) → i < size net → 1 ≤ gate_uses (suc b) (gate_at net i) → NamedUpTo net a i

    Out : ℕ → ℕ → Type 0
    Out a b = (a < b) × ((i : ℕ) × (i < size net) × OutOfOrder n q.table net a b i)

    of_gate : (a b i : ℕ) → symmetric_in n q.table a b ≡ true → (1 ≤ gate_uses (suc b) (gate_at net i) → NamedUpTo net a i) ⊎ OutOfOrder n q.table net a b i
    of_gate a b i s =
        elim (all_or_one (λ k. gate_uses (suc a) (gate_at net k) ≡ 0) (λ k. 1 ≤ gate_uses (suc a) (gate_at net k)) (suc i) (λ k h. zero_or_more (gate_uses (suc a) (gate_at net k)))) [
          | inr (k, h, u) ↦ inl (λ _. (k, omega arith, u))
          | inl none ↦
              elim (cases_lt 0 (gate_uses (suc b) (gate_at net i))) [
                | inl u ↦ inr (record { symmetric = s; later = u; no_earlier = λ k h. none k (omega arith) })
                | inr z ↦ inl (λ u. absurd (omega arith))
              ]
        ]
      where
        zero_or_more : (x : ℕ) → (x ≡ 0) ⊎ (1 ≤ x)
        zero_or_more x = elim (cases_lt 0 x) [ inl u ↦ inr u | inr z ↦ inl (omega arith) ]

    of_pair : (a b : ℕ) → a < b → PairInOrder a b ⊎ Out a b
    of_pair a b l = at (symmetric_in n q.table a b) refl
      where
        at : (s : Bool) → symmetric_in n q.table a b ≡ s → PairInOrder a b ⊎ Out a b
        at false e = inl (λ s. absurd (subst T (sym s ∙ e) tt))
        at true e =
            elim (all_or_one _ (OutOfOrder n q.table net a b) (size net) (λ i h. of_gate a b i e)) [
              | inl o ↦ inl (λ _. o)
              | inr found ↦ inr (l, found)
            ]

    of_first : (a : ℕ) → ((b : ℕ) → a < b → b < n → PairInOrder a b) ⊎ ((b : ℕ) × (b < n) × Out a b)
    of_first a =
        elim (all_or_one (λ b. a < b → PairInOrder a b) (Out a) n (λ b h. of_second b (cases_lt a b))) [
          | inl o ↦ inl (λ b l m. o b m l)
          | inr found ↦ inr found
        ]
      where
        of_second : (b : ℕ) → (a < b) ⊎ (b ≤ a) → (a < b → PairInOrder a b) ⊎ Out a b
        of_second b (inl l) = elim (of_pair a b l) [ inl o ↦ inl (λ _. o) | inr out ↦ inr out ]
        of_second b (inr m) = inl (λ l. absurd (omega arith))
