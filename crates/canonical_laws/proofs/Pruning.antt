-- What holds of every canonical network, so that an enumeration may leave out the networks of which it does not.
use Rattle.std.proofs.Common.{◌≡◌, ℕ, zero, suc, ◌+◌, ◌<◌, ◌≤◌, ◌⊎◌, List, [], ◌∷◌, ◌++◌, length, get_or, replicate, refl, ap, ◌∙◌, subst, inl, inr, arith}
use lib.ListN.{length-replicate}
use Rattle.std.proofs.lemmas.List.{length_push, get_or_push, get_or_append_left}
use Rattle.std.proofs.lemmas.Bool.{ne_eqb, cases_lt}
use Rattle.std.proofs.lemmas.Bool.Decides.{nat_tests}
use Rattle.mig.specs.declared.network.Gate.{Gate}
use Rattle.mig.specs.Networks.{Net, size, node, names, gate_value, walk, uses_in, uses, GateBelow, Ordered, Formed, levels}
use Rattle.mig.specs.Questions.{level}
use Rattle.mig_laws.proofs.Nodes.{level_at}
use Rattle.mig_laws.proofs.Walks.{walk_keeps, uses_in-append, ordered_left, ordered_right}
use Rattle.canonical_laws.specs.Canonical.{Rising, Buffer, CanonicalGate, Canonical, AllCanonical}
use Rattle.canonical_laws.proofs.Gates.{gate_uses}
use Rattle.canonical_laws.proofs.Uses.{unused_behind}

-- a gate that names a node is above it
level_above : (ls : List ℕ) (j : ℕ) (g : Gate) → 0 < gate_uses j g → get_or ls j 0 < gate_value levels ls g
level_above ls j g h = rw (level_at ls g.first, level_at ls g.second, level_at ls g.third) (grind (arith, nat_tests))

-- each node that some gate names has a level below that of a later node
named_below_later : (ls : List ℕ) (gs : List Gate) (j : ℕ) → Ordered (length ls) gs → 0 < uses_in j gs
    → (i : ℕ) × (j < i) × (i < length ls + length gs) × (get_or (walk levels ls gs) j 0 < get_or (walk levels ls gs) i 0)
unfolding walk uses_in Ordered
named_below_later ls [] j o h = absurd (omega arith)
named_below_later ls (g ∷ gs) j o h =
    let v = gate_value levels ls g in
    let long = length_push ls v in
    elim (cases_lt 0 (gate_uses j g)) [
      | inl u ↦
          let l : j < length ls = grind (arith, nat_tests) in
          let a : get_or (walk levels (ls ++ v ∷ []) gs) j 0 ≡ get_or ls j 0 = walk_keeps levels (ls ++ v ∷ []) gs 0 j (omega arith) ∙ get_or_append_left ls (v ∷ []) 0 j l in
          let b : get_or (walk levels (ls ++ v ∷ []) gs) (length ls) 0 ≡ v = walk_keeps levels (ls ++ v ∷ []) gs 0 (length ls) (omega arith) ∙ get_or_push ls v 0 (length ls) refl in
          (length ls, l, omega arith, omega (arith, level_above ls j g u))
      | inr u ↦
          let (i, a, b, c) = named_below_later (ls ++ v ∷ []) gs j (rw long o.1) (omega arith) in
          (i, a, omega arith, c)
    ]

-- what is less at each place than at some later one is less than at the last place
less_than_last : (f : ℕ → ℕ) (n last : ℕ) → ((j : ℕ) → n < j → j < last → (i : ℕ) × (j < i) × (i ≤ last) × (f j < f i))
    → (d j : ℕ) → last ≤ j + d → n < j → j < last → f j < f last
less_than_last f n last later zero j h a b = absurd (omega arith)
less_than_last f n last later (suc d) j h a b =
    let (i, p, q, r) = later j a b in
    elim (cases_lt i last) [
      | inl l ↦ omega (arith, less_than_last f n last later d i (omega arith) (omega arith) l)
      | inr l ↦ let e : i ≡ last = omega arith in subst (λ (x : ℕ). f j < f x) e r
    ]

-- every gate but the last has a level below that of the network
pub level_before_output : (n : ℕ) (net : Net) → Formed n net → Canonical n net → (j : ℕ) → n < j → j < n + size net
    → get_or (walk levels (replicate (n + 1) 0) net.gates) j 0 < level n net
level_before_output n net f c j a b = at c.last
  where
    zeros : List ℕ
    zeros = replicate (n + 1) 0

    long : length zeros ≡ n + 1
    long = length-replicate (n + 1) 0

    later : node net.output ≡ n + size net → (i : ℕ) → n < i → i < n + size net
        → (l : ℕ) × (i < l) × (l ≤ n + size net) × (get_or (walk levels zeros net.gates) i 0 < get_or (walk levels zeros net.gates) l 0)
    later e i p q =
        let u : 1 ≤ uses i net = c.used i p (omega arith) in
        let o : names i net.output ≡ 0 = rw (ne_eqb (node net.output) i (omega arith)) in
        let (l, x, y, z) = named_below_later zeros net.gates i (rw long f.gates) (omega arith) in
        (l, x, omega (arith, long), z)

    at : (size net ≡ 0) ⊎ (node net.output ≡ n + size net) → get_or (walk levels zeros net.gates) j 0 < level n net
    at (inl e) = absurd (omega arith)
    at (inr e) =
        rw (level_at (walk levels zeros net.gates) net.output, e)
        (less_than_last (λ i. get_or (walk levels zeros net.gates) i 0) n (n + size net) (later e) (n + size net) j (omega arith) a b)

pub canonical_right : (b : ℕ) (xs ys : List Gate) → AllCanonical b (xs ++ ys) → AllCanonical b ys
unfolding AllCanonical
canonical_right b [] ys h = h
canonical_right b (g ∷ xs) ys h = canonical_right b xs ys h.1

-- a canonical gate that names the newest node names it last
newest_third : (b j : ℕ) (g : Gate) → 0 < j → CanonicalGate b g → GateBelow (j + 1) g → 0 < gate_uses j g → node g.third ≡ j
newest_third b j g o c l u = at c.shape
  where
    at : Rising g ⊎ Buffer b g → node g.third ≡ j
    at (inl r) = grind (arith, nat_tests)
    at (inr r) = let h = rw (r.first, r.second) at u in grind (arith, nat_tests)

-- the last gate names the gate before it, as its third fan-in
pub last_names_newest : (n : ℕ) (net : Net) (before : List Gate) (g : Gate) → net.gates ≡ before ++ g ∷ [] → 1 ≤ length before → Formed n net → Canonical n net
    → node g.third ≡ n + length before
unfolding AllCanonical Ordered uses_in
last_names_newest n net before g e l f c =
    let j = n + length before in
    let long : size net ≡ length before + 1 = ap length e ∙ length_push before g in
    let gates : AllCanonical (n + 1) (before ++ g ∷ []) = subst (AllCanonical (n + 1)) e c.gates in
    let ordered : Ordered (n + 1) (before ++ g ∷ []) = subst (Ordered (n + 1)) e f.gates in
    let used : 1 ≤ uses_in j net.gates + names j net.output = c.used j (omega arith) (omega arith) in
    let in_gates : uses_in j net.gates ≡ uses_in j before + uses_in j (g ∷ []) = ap (uses_in j) e ∙ uses_in-append j before (g ∷ []) in
    let not_before = unused_behind (n + 1) j before (ordered_left (n + 1) before (g ∷ []) ordered) (omega arith) in
    let not_output : names j net.output ≡ 0 = rw (ne_eqb (node net.output) j (omega (arith, c.last))) in
    newest_third (n + 1) j g (omega arith) (canonical_right (n + 1) before (g ∷ []) gates).0 (ordered_right (n + 1) (j + 1) before (g ∷ []) (omega arith) ordered).0 (omega arith)

-- the first gates of a network use a node no more often than the network
pub uses_prefix : (j : ℕ) (net : Net) (before behind : List Gate) → net.gates ≡ before ++ behind → uses_in j before ≤ uses j net
uses_prefix j net before behind e = rw e (omega (arith, uses_in-append j before behind))
