-- What a network meets, a canonical network of at most its size meets.
use Rattle.std.proofs.Common.{◌≡◌, ℕ, zero, suc, ◌+◌, ◌-◌, ◌<◌, ◌≤◌, ◌⊎◌, List, [], ◌∷◌, length, get_or, refl, ◌∙◌, subst, inl, inr, arith}
use Rattle.std.specs.List.{AllByRecursion as All}
use Rattle.std.proofs.ByRecursion.{All-get_or, All-from_get_or, All-map}
use Rattle.std.proofs.lemmas.List.{length-map}
use Rattle.std.proofs.lemmas.Bool.{ne_eqb, cases_lt, cases_eq}
use Rattle.mig.specs.declared.network.Gate.{Gate}
use Rattle.mig.specs.declared.question.Question.{Question}
use Rattle.mig.specs.Networks.{Net, size, empty_gate, node, names, uses_in, uses, Formed, Ordered}
use Rattle.mig.specs.Normal.{gate_at, Normal, normalised}
use Rattle.mig.specs.Questions.{Meets}
use Rattle.mig_laws.proofs.Turning.{normalised_normal, normalised_meets, normalised_shape}
use Rattle.canonical_laws.specs.Canonical.{Rising, Buffer, CanonicalGate, AllCanonical, Used, Canonical, CanonicalInstead}
use Rattle.canonical_laws.proofs.Uses.{unused_behind}
use Rattle.canonical_laws.proofs.Renumbered.{renumber_gate, renumber_gate_canonical}
use Rattle.canonical_laws.proofs.Fronts.{exchanged, exchanged_meets}
use Rattle.canonical_laws.proofs.Removed.{Smaller, Removable, removed}

-- the network with each gate made canonical
abbrev pub canonical_gates : Net → Net
canonical_gates net = exchanged (λ j. j) [] net.gates net.output

pub canonical_gates_meets : (q : Question) (net : Net) → Meets q net → Meets q (canonical_gates net)
unfolding Ordered uses_in
canonical_gates_meets q net h =
    exchanged_meets q (λ j. Unit {0}) (λ j. j) [] [] net.gates net.output
    (record {
      ordered = tt;
      shifts = record { below = λ j l. l; behind = λ j l. refl };
      bits = λ t j p. refl;
      levels = λ j p. omega arith;
      origin = λ j l. (j, record { gate = l; within = λ r b. b; only = λ x e. e; uses = omega arith });
    })
    (All-from_get_or _ net.gates empty_gate (λ i l. (tt, tt, tt))) tt h

pub canonical_gates_canonical : (net : Net) → Normal net → All (CanonicalGate 0) (canonical_gates net).gates
canonical_gates_canonical net h =
    All-map (CanonicalGate 0) (renumber_gate (λ j. j)) net.gates
    (All-from_get_or _ net.gates empty_gate (λ i l. renumber_gate_canonical (λ j. j) (gate_at net i) (h i l)))

-- canonical gates one by one are canonical gates all together
all_canonical : (b : ℕ) (gs : List Gate) → ((i : ℕ) → i < length gs → CanonicalGate b (get_or gs i empty_gate)) → AllCanonical b gs
unfolding AllCanonical
all_canonical b [] h = tt
all_canonical b (g ∷ gs) h = (h 0 (omega arith), all_canonical b gs (λ i l. h (suc i) (omega arith)))

-- if every gate has a use, the output is the last gate
used_last : (n : ℕ) (net : Net) → Formed n net → Used n net → (size net ≡ 0) ⊎ (node net.output ≡ n + size net)
used_last n net f u = at (cases_eq (size net) 0) (cases_eq (node net.output) (n + size net))
  where
    at : (size net ≡ 0) ⊎ (size net ≡ 0 → ⊥) → (node net.output ≡ n + size net) ⊎ (node net.output ≡ n + size net → ⊥) → (size net ≡ 0) ⊎ (node net.output ≡ n + size net)
    at (inl z) e = inl z
    at (inr z) (inl e) = inr e
    at (inr z) (inr e) =
        let a : 1 ≤ uses (n + size net) net = u (n + size net) (omega arith) (omega arith) in
        let b = unused_behind (n + 1) (n + size net) net.gates f.gates (omega arith) in
        let c : names (n + size net) net.output ≡ 0 = rw (ne_eqb (node net.output) (n + size net) e) in
        absurd (omega arith)

-- a gate that stays: it is used, and if it is a buffer it copies a gate
abbrev Stays : ℕ → Net → ℕ → Type 0
Stays n net i = CanonicalGate (n + 1) (gate_at net i) × (1 ≤ uses (n + 1 + i) net)

stays_or_removable : (n : ℕ) (net : Net) (i : ℕ) → CanonicalGate 0 (gate_at net i) → Stays n net i ⊎ Removable n net i
stays_or_removable n net i h = at (cases_lt 0 (uses (n + 1 + i) net)) (cases_lt n (node (gate_at net i).third)) h.shape
  where
    at : (0 < uses (n + 1 + i) net) ⊎ (uses (n + 1 + i) net ≤ 0) → (n < node (gate_at net i).third) ⊎ (node (gate_at net i).third ≤ n)
        → Rising (gate_at net i) ⊎ Buffer 0 (gate_at net i) → Stays n net i ⊎ Removable n net i
    at (inr u) s b = inr (inl (omega arith))
    at (inl u) s (inl b) = inl (record { once = h.once; shape = inl b }, u)
    at (inl u) (inl s) (inr b) =
        inl (record { once = h.once; shape = inr (record { first = b.first; second = b.second; plain = b.plain; source = omega arith }) }, u)
    at (inl u) (inr s) (inr b) = inr (inr (b, s))

-- A holds of every number below k, or B of one of them
pub all_or_one : (A B : ℕ → Type 0) (k : ℕ) → ((i : ℕ) → i < k → A i ⊎ B i) → ((i : ℕ) → i < k → A i) ⊎ ((i : ℕ) × (i < k) × B i)
all_or_one A B zero h = inl (λ i l. absurd (omega arith))
all_or_one A B (suc k) h = at (all_or_one A B k (λ i l. h i (omega arith))) (h k (omega arith))
  where
    at : (((i : ℕ) → i < k → A i) ⊎ ((i : ℕ) × (i < k) × B i)) → A k ⊎ B k → ((i : ℕ) → i < suc k → A i) ⊎ ((i : ℕ) × (i < suc k) × B i)
    at (inr (i, l, b)) last = inr (i, omega arith, b)
    at (inl each) (inr b) = inr (k, omega arith, b)
    at (inl each) (inl a) = inl (λ i l. place i l (cases_eq k i))
      where
        place : (i : ℕ) → i < suc k → (k ≡ i) ⊎ (k ≡ i → ⊥) → A i
        place i l (inl e) = subst A e a
        place i l (inr e) = each i (omega arith)

-- a network of canonical gates is canonical, or a smaller one meets what it meets
pub canonical_or_smaller : (q : Question) (net : Net) → Meets q net → All (CanonicalGate 0) net.gates
    → Canonical q.inputs net ⊎ Smaller q net
canonical_or_smaller q net h gates =
    at (all_or_one (Stays n net) (Removable n net) (size net) (λ i l. stays_or_removable n net i (All-get_or (CanonicalGate 0) net.gates i empty_gate l gates)))
  where
    n : ℕ
    n = q.inputs

    at : ((i : ℕ) → i < size net → Stays n net i) ⊎ ((i : ℕ) × (i < size net) × Removable n net i)
        → Canonical n net ⊎ Smaller q net
    at (inr (i, l, r)) = inr (removed q net i l r h)
    at (inl stays) =
        let used : Used n net = λ j a b.
        let e : n + 1 + (j - (n + 1)) ≡ j = omega arith in
        subst (λ (x : ℕ). 1 ≤ uses x net) e (stays (j - (n + 1)) (omega arith)).1 in
        inl (record { gates = all_canonical (n + 1) net.gates (λ i l. (stays i l).0); last = used_last n net h.formed used; used = used })

-- its gates made canonical, the network is canonical, or a smaller one meets what it meets
made_canonical : (q : Question) (net : Net) → Meets q net → ((other : Net) × CanonicalInstead q net other) ⊎ Smaller q net
made_canonical q net h = at (canonical_or_smaller q other meets gates)
  where
    n : ℕ
    n = q.inputs

    other : Net
    other = canonical_gates (normalised n net)

    meets : Meets q other
    meets = canonical_gates_meets q (normalised n net) (normalised_meets q net h)

    gates : All (CanonicalGate 0) other.gates
    gates = canonical_gates_canonical (normalised n net) (normalised_normal n net h.formed)

    long : size other ≡ size net
    long = length-map (normalised n net).gates (renumber_gate (λ j. j)) ∙ (normalised_shape n net h.formed).gates

    at : Canonical n other ⊎ Smaller q other → ((other : Net) × CanonicalInstead q net other) ⊎ Smaller q net
    at (inl c) = inl (other, record { meets = meets; no_larger = omega (arith, long); canonical = c })
    at (inr (smaller, m, l)) = inr (smaller, m, omega (arith, long))

below_size : (q : Question) (bound : ℕ) (net : Net) → size net < bound → Meets q net → (other : Net) × CanonicalInstead q net other
below_size q zero net l h = absurd (omega arith)
below_size q (suc bound) net l h =
    elim (made_canonical q net h) [
      | inl c ↦ c
      | inr (smaller, m, i) ↦
          let (other, c) = below_size q bound smaller (omega arith) m in
          (other, record { meets = c.meets; no_larger = omega (arith, c.no_larger); canonical = c.canonical })
    ]

-- what a network meets, a canonical network of at most its size meets
pub canonical_exists : (q : Question) (net : Net) → Meets q net → (other : Net) × CanonicalInstead q net other
canonical_exists q net h = below_size q (size net + 1) net (omega arith) h
