-- Networks that begin with given gates: gate by gate, and candidate by candidate.
use Rattle.std.proofs.Common.{◌≡◌, ℕ, ◌+◌, ◌-◌, ◌<◌, ◌≤◌, ◌⊎◌, List, [], ◌∷◌, ◌++◌, length, Some, None, Option, MatchOption, sym, refl, ap, ◌∙◌, subst, inl, inr, append_assoc, arith}
use Rattle.std.proofs.lemmas.List.{length_push}
use Rattle.std.proofs.lemmas.Bool.{cases_lt}
use Rattle.mig.specs.declared.network.Gate.{Gate}
use Rattle.mig.specs.declared.network.Network.{Network}
use Rattle.mig.specs.declared.question.Question.{Question}
use Rattle.mig.specs.Networks.{Net, GateBelow, Ordered, size, node}
use Rattle.mig.specs.Questions.{Meets}
use Rattle.mig_laws.proofs.Walks.{ordered_right}
use Rattle.canonical_laws.specs.Canonical.{CanonicalGate, CanonicalInstead, AllCanonical}
use Rattle.canonical_laws.proofs.Exist.{canonical_exists}
use Rattle.canonical_laws.proofs.Pruning.{canonical_right, last_names_newest}
use Rattle.gate_order.specs.declared.Candidate.{Candidate}
use Rattle.gate_order.specs.Candidates.{gate_of, IsCandidate, rank, Before, NoneBetween, NamesBelow}
use Rattle.gate_order.proofs.Coverage.{canonical_candidate, same_rank, names_below}
use Rattle.enumeration_laws.specs.Placed.{FoundOr, FoundWithin}
use Rattle.enumeration_laws.specs.Prefixes.{NoneExtends, NoneGoesOn, NoneEndsWith, NoneWithoutGates, NoneBefore}

canonical_at : (b : ℕ) (xs : List Gate) (g : Gate) (ys : List Gate) → AllCanonical b (xs ++ g ∷ ys) → CanonicalGate b g
unfolding AllCanonical
canonical_at b xs g ys h = (canonical_right b xs (g ∷ ys) h).0

below_at : (m : ℕ) (xs : List Gate) (g : Gate) (ys : List Gate) → Ordered m (xs ++ g ∷ ys) → GateBelow (m + length xs) g
unfolding Ordered
below_at m xs g ys h = (ordered_right m (m + length xs) xs (g ∷ ys) refl h).0

-- nothing extends the gates if nothing goes on with a canonical gate of earlier nodes
none_extends : (q : Question) (before : List Gate) (left : ℕ)
    → ((g : Gate) → CanonicalGate (q.inputs + 1) g → GateBelow (q.inputs + 1 + length before) g → NoneGoesOn q before left g)
    → NoneExtends q before left
none_extends q before left each net e = at e.behind e.gates e.some e.few
  where
    at : (behind : List Gate) → net.gates ≡ before ++ behind → 1 ≤ length behind → length behind ≤ left → ⊥
    at [] same some few = omega arith
    at (g ∷ rest) same some few =
        let n = q.inputs in
        each g (canonical_at (n + 1) before g rest (subst (AllCanonical (n + 1)) same e.canonical.gates))
        (below_at (n + 1) before g rest (subst (Ordered (n + 1)) same e.meets.formed.gates))
        net rest same (omega arith) e.meets e.canonical

-- nothing goes on with a gate if nothing ends with it, and nothing extends the gates with it
pub none_goes_on : (q : Question) (before : List Gate) (left : ℕ) (g : Gate) → NoneEndsWith q before g → (1 < left → NoneExtends q (before ++ g ∷ []) (left - 1)) → NoneGoesOn q before left g
none_goes_on q before left g last more net [] same few meets canonical = last net same (at canonical.last) meets
  where
    long : size net ≡ length before + 1
    long = ap length same ∙ length_push before g

    at : (size net ≡ 0) ⊎ (node net.output ≡ q.inputs + size net) → node net.output ≡ q.inputs + 1 + length before
    at (inl e) = absurd (omega (arith, long))
    at (inr e) = omega (arith, long)
none_goes_on q before left g last more net (h ∷ rest) same few meets canonical =
    let several : 1 < left = omega arith in
    more several net
    (record {
      behind = h ∷ rest;
      gates = same ∙ sym (append_assoc before (g ∷ []) (h ∷ rest));
      some = omega arith;
      few = omega arith;
      meets = meets;
      canonical = canonical;
    })

-- before the first candidate nothing is left out; or, where one gate is left behind others, gates that do not name
-- the newest
pub none_before_first : (q : Question) (before : List Gate) (left count : ℕ) (next : Option Candidate)
    → length before ≡ count
    → ((x : Candidate) → IsCandidate q.inputs (q.inputs + 1 + count) x → Before x next
    → (left ≡ 1) × (1 ≤ count) × NamesBelow (q.inputs + count) x)
    → NoneBefore q before left (q.inputs + 1 + count) next
none_before_first q before left count next long skipped x is earlier = at (skipped x is earlier)
  where
    at : (left ≡ 1) × (1 ≤ count) × NamesBelow (q.inputs + count) x → NoneGoesOn q before left (gate_of x)
    at (single, some, older) net [] same few meets canonical =
        let named = last_names_newest q.inputs net before (gate_of x) same (omega arith) meets.formed canonical in
        let low = names_below (q.inputs + count) x older in
        omega arith
    at (single, some, older) net (h ∷ rest) same few meets canonical = omega arith

-- one candidate further
pub none_before_next : (q : Question) (before : List Gate) (left k : ℕ) (c : Candidate) (next : Option Candidate)
    → k < 16 → IsCandidate q.inputs k c → NoneBetween q.inputs k c next
    → NoneBefore q before left k (Some c) → NoneGoesOn q before left (gate_of c) → NoneBefore q before left k next
none_before_next q before left k c next few is between old here x v earlier = at (cases_lt (rank x) (rank c))
  where
    at : (rank x < rank c) ⊎ (rank c ≤ rank x) → NoneGoesOn q before left (gate_of x)
    at (inl a) = old x v a
    at (inr b) =
        let low : rank x ≤ rank c = between x v earlier in
        let e : c ≡ x = same_rank q.inputs k c x few is v (omega arith) in
        subst (λ y. NoneGoesOn q before left (gate_of y)) e here

-- behind the last candidate nothing is left
pub none_before_all : (q : Question) (before : List Gate) (left count : ℕ) → length before ≡ count
    → NoneBefore q before left (q.inputs + 1 + count) None → NoneExtends q before left
none_before_all q before left count long none = none_extends q before left each
  where
    each : (g : Gate) → CanonicalGate (q.inputs + 1) g → GateBelow (q.inputs + 1 + length before) g → NoneGoesOn q before left g
    each g canonical below =
        let x = canonical_candidate q.inputs (q.inputs + 1 + count) g canonical (subst (λ m. GateBelow (q.inputs + 1 + m) g) long below) in
        subst (NoneGoesOn q before left) x.gate (none x.candidate x.is tt)

-- a network of at most r gates would have a canonical one in its place
pub none_within : (q : Question) (r : ℕ) → NoneWithoutGates q → (1 ≤ r → NoneExtends q [] r) → (net : Net) → Meets q net → size net ≤ r → ⊥
none_within q r empty more net meets few =
    let x = canonical_exists q net meets in
    at x.0 x.1 x.0.gates refl
  where
    at : (other : Net) → CanonicalInstead q net other → (gs : List Gate) → other.gates ≡ gs → ⊥
    at other instead [] e = empty other e instead.meets
    at other instead (g ∷ gs) e =
        let s : size other ≡ length (g ∷ gs) = ap length e in
        let h = instead.no_larger in
        more (omega arith) other (record { behind = g ∷ gs; gates = e; some = omega arith; few = omega arith; meets = instead.meets; canonical = instead.canonical })

-- the network without gates, or else the one with gates, is the answer
pub found_within : (q : Question) (r : ℕ) (first found : Option Network) → FoundOr (NoneWithoutGates q) q 0 first
    → MatchOption first (FoundOr (NoneExtends q [] r) q r found) (λ x. found ≡ Some x) → FoundWithin q r found
found_within q r (Some network) found without either = subst (FoundWithin q r) (sym either)
    (record { meets = without.meets; few = omega (arith, without.few); cleared = without.cleared })
found_within q r None (Some network) without either = either
found_within q r None None without either = none_within q r without (λ _. either)
