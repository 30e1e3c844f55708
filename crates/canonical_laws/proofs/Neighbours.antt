-- What a network meets, a canonical network of at most its size meets whose keys make the lowest number: its neighbours are in order.
use Rattle.std.proofs.Common.{◌≡◌, ℕ, zero, suc, ◌+◌, ◌-◌, ◌*◌, ◌<◌, ◌≤◌, ◌⊎◌, List, [], ◌∷◌, ◌++◌, map, length, take, drop, sym, refl, ap, ◌∙◌, subst, inl, inr, arith, length-append}
use lib.Arith.{digits_lt}
use lib.ListN.{length-map}
use Rattle.std.specs.List.{AllByRecursion as All}
use Rattle.std.proofs.ByRecursion.{All-from_get_or, All-weaker, All-map}
use Rattle.std.proofs.lemmas.List.{length_push, take_more, take-append-drop, length-take-le}
use Rattle.std.proofs.lemmas.Bool.{cases_lt, cases_eq}
use Rattle.mig.specs.declared.network.Gate.{Gate}
use Rattle.mig.specs.declared.question.Question.{Question}
use Rattle.mig.specs.Networks.{Net, size, empty_gate, node, greatest, GateBelow, Ordered}
use Rattle.mig.specs.Normal.{gate_at}
use Rattle.mig.specs.Questions.{Meets}
use Rattle.mig_laws.proofs.Decisions.{greatest_above}
use Rattle.mig_laws.proofs.Walks.{ordered_left, ordered_right}
use Rattle.canonical_laws.specs.Canonical.{Rising, Buffer, CanonicalGate, AllCanonical, Canonical, CanonicalInstead}
use Rattle.canonical_laws.specs.Neighbours.{OrderedNeighbours}
use Rattle.canonical_laws.proofs.Renumbered.{renumber_gate, renumber_gate_canonical}
use Rattle.canonical_laws.proofs.Fronts.{joined, exchanged, exchanged_meets}
use Rattle.canonical_laws.proofs.Swapped.{swap, with_two, length_two, swapped_exchanges}
use Rattle.canonical_laws.proofs.Exist.{all_or_one, canonical_or_smaller, canonical_exists}

-- above the key of every gate that names only nodes below m
pub key_bound : (Gate → ℕ) → ℕ → ℕ
key_bound key m =
    1 + greatest (2 * m) (λ a. greatest (2 * m) (λ b. greatest (2 * m) (λ c. key (record { first = a; second = b; third = c }))))

key_below : (key : Gate → ℕ) (m : ℕ) (g : Gate) → GateBelow m g → key g < key_bound key m
unfolding key_bound
key_below key m g l =
    let of = λ (a b c : ℕ). key (record { first = a; second = b; third = c }) in
    let x = greatest_above (2 * m) (λ a. greatest (2 * m) (λ b. greatest (2 * m) (of a b))) g.first (omega arith) in
    let y = greatest_above (2 * m) (λ b. greatest (2 * m) (of g.first b)) g.second (omega arith) in
    let z = greatest_above (2 * m) (of g.first g.second) g.third (omega arith) in
    omega arith

pub keys_below : (key : Gate → ℕ) (m p : ℕ) (gs : List Gate) → Ordered m gs → m + length gs ≤ p → All (λ g. key g < key_bound key p) gs
unfolding Ordered
keys_below key m p [] o l = tt
keys_below key m p (g ∷ gs) o l = (key_below key p g (omega arith, omega arith, omega arith), keys_below key (m + 1) p gs o.1 (omega arith))

-- the number whose digits in base b are those of a and then the keys of the gates
unfoldable pub key_number : (Gate → ℕ) → ℕ → ℕ → List Gate → ℕ
key_number key b a [] = a
key_number key b a (g ∷ gs) = key_number key b (a * b + key g) gs

-- what comes first decides between two such numbers
pub number_less : (key : Gate → ℕ) (b a a' : ℕ) (gs gs' : List Gate) → length gs ≡ length gs' → All (λ g. key g < b) gs → a < a' → key_number key b a gs < key_number key b a' gs'
unfolding key_number
number_less key b a a' [] [] e p l = l
number_less key b a a' [] (g' ∷ gs') e p l = absurd (omega arith)
number_less key b a a' (g ∷ gs) [] e p l = absurd (omega arith)
number_less key b a a' (g ∷ gs) (g' ∷ gs') e p l =
    let d : a * b + key g < a' * b = digits_lt l p.0 in
    number_less key b (a * b + key g) (a' * b + key g') gs gs' (omega arith) p.1 (omega arith)

-- the number falls where a gate of less key comes to the front
swapped_number : (key : Gate → ℕ) (b a : ℕ) (xs : List Gate) (g h : Gate) (ys ys' : List Gate) → length ys' ≡ length ys → All (λ g. key g < b) (with_two xs h g ++ ys') → key h < key g
    → key_number key b a (with_two xs h g ++ ys') < key_number key b a (with_two xs g h ++ ys)
unfolding key_number
swapped_number key b a [] g h ys ys' e p l = number_less key b (a * b + key h) (a * b + key g) (g ∷ ys') (h ∷ ys) (omega arith) p.1 (omega arith)
swapped_number key b a (x ∷ xs) g h ys ys' e p l = swapped_number key b (a * b + key x) xs g h ys ys' e p.1 l

-- a network of canonical gates, as large, that meets the question and whose keys make a lower number
pub record LowerKeys (key : Gate → ℕ) (b : ℕ) (q : Question) (net other : Net) : Type 0 where
  pub meets : Meets q other
  pub gates : All (CanonicalGate 0) other.gates
  pub as_large : size other ≡ size net
  pub lower : key_number key b 0 other.gates < key_number key b 0 net.gates

-- gates that are canonical over some inputs are canonical over none
pub all_canonical_from : (b : ℕ) (gs : List Gate) → AllCanonical b gs → All (CanonicalGate 0) gs
unfolding AllCanonical
all_canonical_from b [] h = tt
all_canonical_from b (g ∷ gs) h = (record { once = h.0.once; shape = at h.0.shape }, all_canonical_from b gs h.1)
  where
    at : Rising g ⊎ Buffer b g → Rising g ⊎ Buffer 0 g
    at (inl r) = inl r
    at (inr r) = inr (record { first = r.first; second = r.second; plain = r.plain; source = omega arith })

-- a canonical gate that has not the newest node as its third fan-in does not name it
not_newest : (k : ℕ) (g : Gate) → 0 < k → CanonicalGate 0 g → GateBelow (k + 1) g → (node g.third ≡ k → ⊥) → GateBelow k g
not_newest k g o c l d = at c.shape
  where
    at : Rising g ⊎ Buffer 0 g → GateBelow k g
    at (inl r) = (omega arith, omega arith, omega arith)
    at (inr r) = (rw r.first o, rw r.second o, omega arith)

second_of : (P : Gate → Type 0) (xs : List Gate) (g h : Gate) (ys : List Gate) → All P (with_two xs g h ++ ys) → P h
second_of P [] g h ys p = p.1.0
second_of P (x ∷ xs) g h ys p = second_of P xs g h ys p.1

swapped_canonical : (σ : ℕ → ℕ) (xs : List Gate) (g h : Gate) (ys : List Gate) → All (CanonicalGate 0) (with_two xs g h ++ ys)
    → All (CanonicalGate 0) (with_two xs h g ++ map (renumber_gate σ) ys)
swapped_canonical σ [] g h ys p =
    (p.1.0, (p.0, All-map (CanonicalGate 0) (renumber_gate σ) ys (All-weaker (CanonicalGate 0) _ (λ x c. renumber_gate_canonical σ x c.once) ys p.1.1)))
swapped_canonical σ (x ∷ xs) g h ys p = (p.0, swapped_canonical σ xs g h ys p.1)

-- with two neighbours swapped, of which the later does not name the earlier and has the less key, the keys make a lower number
swapped_lower : (key : Gate → ℕ) (q : Question) (xs : List Gate) (g h : Gate) (ys : List Gate) (o : ℕ)
    → (node h.third ≡ q.inputs + 1 + length xs → ⊥) → key h < key g → Meets q (joined (with_two xs g h) ys o) → All (CanonicalGate 0) (with_two xs g h ++ ys)
    → LowerKeys key (key_bound key (q.inputs + 1 + length (with_two xs g h ++ ys))) q (joined (with_two xs g h) ys o) (exchanged (swap (q.inputs + 1 + length xs)) (with_two xs h g) ys o)
unfolding Ordered
swapped_lower key q xs g h ys o apart less m c =
    record {
      meets = meets;
      gates = swapped_canonical (swap k) xs g h ys c;
      as_large = as_large;
      lower = swapped_number key b 0 xs g h ys ys' (length-map ys (renumber_gate (swap k))) (keys_below key (n + 1) m' (with_two xs h g ++ ys') meets.formed.gates (omega (arith, as_large))) less;
    }
  where
    n : ℕ
    n = q.inputs

    k : ℕ
    k = n + 1 + length xs

    ys' : List Gate
    ys' = map (renumber_gate (swap k)) ys

    m' : ℕ
    m' = n + 1 + length (with_two xs g h ++ ys)

    b : ℕ
    b = key_bound key m'

    as_large : length (with_two xs h g ++ ys') ≡ length (with_two xs g h ++ ys)
    as_large =
        omega (arith, length-append (with_two xs h g) ys', length-append (with_two xs g h) ys, length_two xs g h, length_two xs h g, length-map ys (renumber_gate (swap k)))

    two : Ordered (n + 1) (with_two xs g h)
    two = ordered_left (n + 1) (with_two xs g h) ys m.formed.gates

    one : Ordered (n + 1) (xs ++ g ∷ [])
    one = ordered_left (n + 1) (xs ++ g ∷ []) (h ∷ []) two

    meets : Meets q (exchanged (swap k) (with_two xs h g) ys o)
    meets =
        exchanged_meets q (λ j. Unit {0}) (swap k) (with_two xs g h) (with_two xs h g) ys o
        (swapped_exchanges n k xs g h refl (ordered_left (n + 1) xs (g ∷ []) one) (ordered_right (n + 1) k xs (g ∷ []) refl one).0
        (not_newest k h (omega arith) (second_of (CanonicalGate 0) xs g h ys c) (ordered_right (n + 1) (k + 1) (xs ++ g ∷ []) (h ∷ []) (omega (arith, length_push xs g)) two).0 apart))
        (All-from_get_or _ ys empty_gate (λ j l. (tt, tt, tt))) tt m

-- two neighbours out of order: the later has not the earlier as its third fan-in, and its key is less
abbrev OutOfOrder : (Gate → ℕ) → ℕ → Net → ℕ → Type 0
OutOfOrder key n net i = (node (gate_at net (i + 1)).third ≡ n + 1 + i → ⊥) × (key (gate_at net (i + 1)) < key (gate_at net i))

lower_keys : (key : Gate → ℕ) (q : Question) (net : Net) (i : ℕ) → i + 1 < size net → OutOfOrder key q.inputs net i → Meets q net → All (CanonicalGate 0) net.gates
    → (other : Net) × LowerKeys key (key_bound key (q.inputs + 1 + size net)) q net other
lower_keys key q net i l (apart, less) m c =
    subst (λ x. (other : Net) × LowerKeys key (key_bound key (q.inputs + 1 + size x)) q x other) (sym same)
    (_, swapped_lower key q xs g h ys net.output (rw long apart) less (subst (Meets q) same m) (subst (λ x. All (CanonicalGate 0) x.gates) same c))
  where
    xs : List Gate
    xs = take i net.gates

    g : Gate
    g = gate_at net i

    h : Gate
    h = gate_at net (i + 1)

    ys : List Gate
    ys = drop (i + 1 + 1) net.gates

    long : length xs ≡ i
    long = length-take-le i net.gates (omega arith)

    whole : net.gates ≡ with_two xs g h ++ ys
    whole =
        sym (take-append-drop (i + 1 + 1) net.gates)
        ∙ ap (λ fs. fs ++ ys) (take_more net.gates (i + 1) empty_gate l ∙ ap (λ fs. fs ++ h ∷ []) (take_more net.gates i empty_gate (omega arith)))

    same : net ≡ joined (with_two xs g h) ys net.output
    same = λ j. record { gates = whole j; output = net.output }

-- the neighbours are in order, or two of them are not
ordered_or_not : (key : Gate → ℕ) (n : ℕ) (net : Net) → OrderedNeighbours key n net ⊎ ((i : ℕ) × (i + 1 < size net) × OutOfOrder key n net i)
ordered_or_not key n net =
    elim (all_or_one InOrder (OutOfOrder key n net) (size net - 1) (λ i l. each i (cases_eq (node (gate_at net (i + 1)).third) (n + 1 + i)) (cases_lt (key (gate_at net (i + 1))) (key (gate_at net i))))) [
      | inl o ↦ inl (λ i l. o i (omega arith))
      | inr (i, l, o) ↦ inr (i, omega arith, o)
    ]
  where
    InOrder : ℕ → Type 0
    InOrder i = (node (gate_at net (i + 1)).third ≡ n + 1 + i → ⊥) → key (gate_at net i) ≤ key (gate_at net (i + 1))

    each : (i : ℕ) → (node (gate_at net (i + 1)).third ≡ n + 1 + i) ⊎ (node (gate_at net (i + 1)).third ≡ n + 1 + i → ⊥)
        → (key (gate_at net (i + 1)) < key (gate_at net i)) ⊎ (key (gate_at net i) ≤ key (gate_at net (i + 1))) → InOrder i ⊎ OutOfOrder key n net i
    each i (inl e) l = inl (λ d. absurd (d e))
    each i (inr d) (inl l) = inr (d, l)
    each i (inr d) (inr l) = inl (λ _. l)

-- as large a network of canonical gates that meets the question and whose keys make a lower number
abbrev pub Lower : (Gate → ℕ) → Question → Net → Type 0
Lower key q net = (other : Net) × LowerKeys key (key_bound key (q.inputs + 1 + size net)) q net other

-- the neighbours are in order of the key, or the keys of another network make a lower number
pub neighbours_or_lower : (key : Gate → ℕ) (q : Question) (net : Net) → Meets q net → Canonical q.inputs net → OrderedNeighbours key q.inputs net ⊎ Lower key q net
neighbours_or_lower key q net m c =
    elim (ordered_or_not key q.inputs net) [
      | inl o ↦ inl o
      | inr (i, b, out) ↦ inr (lower_keys key q net i b out m (all_canonical_from (q.inputs + 1) net.gates c.gates))
    ]

-- a canonical network with a property that meets the question, with no more gates
abbrev pub GoodInstead : (Net → Type 0) → Question → Net → Type 0
GoodInstead Good q net = (other : Net) × CanonicalInstead q net other × Good other

-- a property that each canonical network has, or the keys of another network make a lower number
module _ (key : Gate → ℕ) (q : Question) (Good : Net → Type 0) (good_or_lower : (net : Net) → Meets q net → Canonical q.inputs net → Good net ⊎ Lower key q net) where
  instead : (net other : Net) → size other ≤ size net → GoodInstead Good q other → GoodInstead Good q net
  instead net other l (last, c, o) = (last, record { meets = c.meets; no_larger = omega (arith, c.no_larger); canonical = c.canonical }, o)

  -- by induction on the number that the keys make, if all smaller networks are dealt with
  by_keys : (s bound : ℕ) (net : Net) → size net ≡ s → key_number key (key_bound key (q.inputs + 1 + s)) 0 net.gates < bound
      → Meets q net → Canonical q.inputs net → ((smaller : Net) → size smaller < s → Meets q smaller → GoodInstead Good q smaller) → GoodInstead Good q net
  by_keys s zero net e l m c again = absurd (omega arith)
  by_keys s (suc bound) net e l m c again =
      elim (good_or_lower net m c) [
        | inl o ↦ (net, record { meets = m; no_larger = omega arith; canonical = c }, o)
        | inr (other, x) ↦
            let lower = subst (λ (z : ℕ). key_number key (key_bound key (q.inputs + 1 + z)) 0 other.gates < key_number key (key_bound key (q.inputs + 1 + z)) 0 net.gates) e x.lower in
            elim (canonical_or_smaller q other x.meets x.gates) [
              | inl d ↦ instead net other (omega (arith, x.as_large)) (by_keys s bound other (x.as_large ∙ e) (omega arith) x.meets d again)
              | inr (smaller, p, h) ↦ instead net smaller (omega (arith, x.as_large)) (again smaller (omega (arith, x.as_large)) p)
            ]
      ]

  by_size : (bound : ℕ) (net : Net) → size net < bound → Meets q net → GoodInstead Good q net
  by_size zero net l m = absurd (omega arith)
  by_size (suc bound) net l m =
      let (other, c) = canonical_exists q net m in
      let h = c.no_larger in
      instead net other h
      (by_keys (size other) (key_number key (key_bound key (q.inputs + 1 + size other)) 0 other.gates + 1) other refl (omega arith) c.meets c.canonical
      (λ smaller b p. by_size bound smaller (omega arith) p))

  -- what a network meets, a canonical network of at most its size with the property meets
  pub good_exists : (net : Net) → Meets q net → GoodInstead Good q net
  good_exists net m = by_size (size net + 1) net (omega arith) m
