-- A gate that has no use, or that copies an input or the constant, is left out.
use Rattle.std.proofs.Common.{◌≡◌, ℕ, ◌+◌, ◌-◌, ◌<◌, ◌≤◌, Bool, false, cond, eqb, ltb, ◌⊎◌, List, [], ◌∷◌, ◌++◌, map, length, get_or, take, drop, replicate, sym, refl, ap, ◌∙◌, subst, inl, inr, arith, length-append, length-drop}
use lib.ListN.{length-map, length-replicate}
use Rattle.std.specs.List.{AllByRecursion as All}
use Rattle.std.proofs.lemmas.List.{length_push, length-take-le, get_or_past, take_more, take-append-drop}
use Rattle.std.proofs.ByRecursion.{All-from_get_or}
use Rattle.std.proofs.lemmas.Bool.{eq-eqb, ne_eqb, lt-ltb, le-ltb, cases_lt, cases_order}
use Rattle.std.proofs.lemmas.Bool.Decides.{nat_tests}
use Rattle.mig.specs.declared.network.Gate.{Gate}
use Rattle.mig.specs.declared.question.Question.{Question}
use Rattle.mig.specs.Networks.{Net, size, Kind, empty_gate, node, gate_value, walk, names, uses_in, uses, Ordered, bits, levels}
use Rattle.mig.specs.Questions.{row_start, Meets}
use Rattle.mig.specs.Normal.{gate_at}
use Rattle.mig_laws.proofs.Nodes.{level_at}
use Rattle.mig_laws.proofs.RowBits.{length-input_bits}
use Rattle.mig_laws.proofs.Walks.{get_or-snoc, walk-append, length-walk, walk_keeps, uses_in-append, ordered_left}
use Rattle.canonical_laws.specs.Canonical.{Buffer}
use Rattle.canonical_laws.proofs.Renumbered.{renumber_gate, Monotone, bits_monotone, levels_monotone, NamesOnly}
use Rattle.canonical_laws.proofs.Uses.{unused_behind}
use Rattle.canonical_laws.proofs.Fronts.{Origin, Exchanges, exchanged, exchanged_meets}

-- the node j, where the node k is left out and x stands for it
abbrev without : ℕ → ℕ → ℕ → ℕ
without k x j = cond (eqb j k) x (cond (ltb j k) j (j - 1))

-- the gate copies the node x
record Copies (x : ℕ) (g : Gate) : Type 0 where
  pub buffer : Buffer 0 g
  pub source : node g.third ≡ x

copied_bit : (vs : List Bool) (x : ℕ) (g : Gate) → Copies x g → get_or vs 0 false ≡ false → get_or vs x false ≡ gate_value bits vs g
copied_bit vs x g c o = rw (c.buffer.first, c.buffer.second, c.buffer.plain, c.source, o)

copied_level : (ls : List ℕ) (x : ℕ) (g : Gate) → Copies x g → get_or ls x 0 ≤ gate_value levels ls g
copied_level ls x g c = rw (level_at ls g.third, c.source) (omega arith)

-- the values of the nodes without the gate k
removed_value : {V : Type 0} (kind : Kind V) (R : V → V → Type 0) → Monotone kind R → (vs : List V) (xs : List Gate) (g : Gate) (k x j : ℕ) → length vs + length xs ≡ k
    → (j ≡ k → R (gate_value kind (walk kind vs xs) g) (get_or (walk kind vs xs) x kind.constant))
    → R (get_or (walk kind vs (xs ++ g ∷ [])) j kind.constant) (get_or (walk kind vs xs) (without k x j) kind.constant)
unfolding walk
removed_value {V} kind R c vs xs g k x j l p =
    let e : length us ≡ k = length-walk kind vs xs ∙ l in
    rw (walk-append kind vs xs (g ∷ []), get_or-snoc us (gate_value kind us g) kind.constant j, e) (at e (cases_order j k))
  where
    us : List V
    us = walk kind vs xs

    at : length us ≡ k → (j ≡ k) ⊎ ((j < k) ⊎ (k < j)) → R (cond (eqb j k) (gate_value kind us g) (get_or us j kind.constant)) (get_or us (without k x j) kind.constant)
    at e (inl s) = rw (eq-eqb j k s) (p s)
    at e (inr (inl s)) = rw (ne_eqb j k (omega arith), lt-ltb j k s) (c.reflexive (get_or us j kind.constant))
    at e (inr (inr s)) =
        rw (ne_eqb j k (omega arith), le-ltb j k (omega arith), get_or_past us j kind.constant (omega arith), get_or_past us (j - 1) kind.constant (omega arith))
        (c.reflexive kind.constant)

-- where a gate comes from, once the gate k is left out and a node x of the inputs stands for it
removed_origin : (n k x : ℕ) (xs : List Gate) (g : Gate) → n + 1 + length xs ≡ k → x ≤ n → Ordered (n + 1) xs
    → (j : ℕ) → n < j → (i : ℕ) × Origin n (without k x) (xs ++ g ∷ []) xs j i
removed_origin n k x xs g l a o j b = at (cases_lt j k)
  where
    long : length (xs ++ g ∷ []) ≡ length xs + 1
    long = length_push xs g

    at : (j < k) ⊎ (k ≤ j) → (i : ℕ) × Origin n (without k x) (xs ++ g ∷ []) xs j i
    at (inl c) = (
      j,
      record {
        gate = b;
        within = λ r h. omega (arith, long);
        only = λ y e. grind (arith, nat_tests);
        uses = omega (arith, uses_in-append j xs (g ∷ []));
      },
    )
    at (inr c) = (
      j + 1,
      record {
        gate = omega arith;
        within = λ r h. omega (arith, long);
        only = λ y e. grind (arith, nat_tests);
        uses = omega (arith, unused_behind (n + 1) j xs o (omega arith));
      },
    )

removed_exchanges : (n k x : ℕ) (xs : List Gate) (g : Gate) → n + 1 + length xs ≡ k → x ≤ n → Ordered (n + 1) xs
    → Exchanges n (λ j. j ≡ k → Copies x g) (without k x) (xs ++ g ∷ []) xs
removed_exchanges n k x xs g l a o =
    let long = length_push xs g in
    record {
      ordered = o;
      shifts = record { below = λ j h. grind (arith, nat_tests); behind = λ j h. grind (arith, nat_tests) };
      bits = λ t j p.
          let b = length-input_bits n t in
          removed_value bits _ bits_monotone (row_start n t) xs g k x j (omega arith)
          (λ e. copied_bit (walk bits (row_start n t) xs) x g (p e) (walk_keeps bits (row_start n t) xs false 0 (omega arith)));
      levels = λ j p.
          removed_value levels _ levels_monotone (replicate (n + 1) 0) xs g k x j (rw (length-replicate {A = ℕ} (n + 1) 0) l)
          (λ e. copied_level (walk levels (replicate (n + 1) 0) xs) x g (p e));
      origin = removed_origin n k x xs g l a o;
    }

-- from a code that does not name the node k, anything follows if it names k
not_named : {A : Type 0} (k c : ℕ) → names k c ≡ 0 → node c ≡ k → A
not_named k c h e = let z : ◌≡◌ {A = ℕ} 1 0 = rw (eq-eqb (node c) k e) at h in absurd (omega arith)

none_named : (A : Type 0) (k : ℕ) (gs : List Gate) → uses_in k gs ≡ 0 → All (NamesOnly (λ j. j ≡ k → A)) gs
unfolding uses_in
none_named A k [] h = tt
none_named A k (g ∷ gs) h =
    ((not_named k g.first (omega arith), not_named k g.second (omega arith), not_named k g.third (omega arith)), none_named A k gs (omega arith))

-- a gate that has no use, or copies an input or the constant
abbrev pub Removable : ℕ → Net → ℕ → Type 0
Removable n net i = (uses (n + 1 + i) net ≡ 0) ⊎ (Buffer 0 (gate_at net i) × (node (gate_at net i).third ≤ n))

-- a smaller network meets what the network meets
abbrev pub Smaller : Question → Net → Type 0
Smaller q net = (other : Net) × Meets q other × (size other < size net)

-- without such a gate
pub removed : (q : Question) (net : Net) (i : ℕ) → i < size net → Removable q.inputs net i → Meets q net → Smaller q net
unfolding uses_in
removed q net i l r h = at r
  where
    n : ℕ
    n = q.inputs

    k : ℕ
    k = n + 1 + i

    xs : List Gate
    xs = take i net.gates

    g : Gate
    g = gate_at net i

    ys : List Gate
    ys = drop (i + 1) net.gates

    whole : net.gates ≡ (xs ++ g ∷ []) ++ ys
    whole = sym (take-append-drop (i + 1) net.gates) ∙ ap (λ fs. fs ++ ys) (take_more net.gates i empty_gate l)

    long : length xs ≡ i
    long = length-take-le i net.gates (omega arith)

    without-gate : (x : ℕ) → x ≤ n → All (NamesOnly (λ j. j ≡ k → Copies x g)) ys → (node net.output ≡ k → Copies x g)
        → Smaller q net
    without-gate x a named p = (
      exchanged (without k x) xs ys net.output,
      exchanged_meets q (λ j. j ≡ k → Copies x g) (without k x) (xs ++ g ∷ []) xs ys net.output
          (removed_exchanges n k x xs g (omega (arith, long)) a
          (ordered_left (n + 1) xs (g ∷ []) (ordered_left (n + 1) (xs ++ g ∷ []) ys (subst (Ordered (n + 1)) whole h.formed.gates))))
          named p (subst (λ gs. Meets q (record { gates = gs; output = net.output })) whole h),
      omega (arith, long, length-append xs (map (renumber_gate (without k x)) ys), length-map ys (renumber_gate (without k x)), length-drop (i + 1) net.gates),
    )

    at : Removable n net i → Smaller q net
    at (inl u) =
        let none = rw whole at u in
        let split = uses_in-append k (xs ++ g ∷ []) ys in
        without-gate 0 (omega arith) (none_named (Copies 0 g) k ys (omega arith)) (not_named k net.output (omega arith))
    at (inr (buffer, a)) =
        let copies : Copies (node g.third) g = record { buffer = buffer; source = refl } in
        without-gate (node g.third) a (All-from_get_or _ ys empty_gate (λ j b. (λ _. copies, λ _. copies, λ _. copies))) (λ _. copies)
