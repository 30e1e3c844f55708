-- Every canonical gate of earlier nodes is the gate of a candidate.
use Rattle.std.proofs.Common.{◌≡◌, ℕ, zero, suc, ◌+◌, ◌*◌, ◌%◌, ◌<◌, ◌≤◌, Bool, true, false, ◌⊎◌, Some, None, Option, sym, refl, ap, ◌∙◌, inl, inr, arith}
use Rattle.mig.specs.declared.network.Gate.{Gate}
use Rattle.mig.specs.Networks.{GateBelow, node, complemented}
use Rattle.mig.specs.Normal.{complements}
use Rattle.mig_laws.proofs.Tables.{one, parity}
use Rattle.canonical_laws.specs.Canonical.{CanonicalGate}
use Rattle.canonical_laws.specs.Canonical as shapes
use Rattle.gate_order.specs.declared.FanIn.{FanIn}
use Rattle.gate_order.specs.declared.FanIn.TheVariants.{First, Second, Third}
use Rattle.gate_order.specs.declared.Candidate.{Candidate}
use Rattle.gate_order.specs.declared.Candidate.TheVariants.{Rising, Buffer}
use Rattle.gate_order.specs.Candidates.{gate_of, IsCandidate, choice, rank, NamesBelow}

-- a candidate of the gate g over n inputs, where k nodes stand
pub record CandidateOf (n k : ℕ) (g : Gate) : Type 0 where
  pub candidate : Candidate
  pub is : IsCandidate n k candidate
  pub gate : gate_of candidate ≡ g

same_gate : (a b c : ℕ) (g : Gate) → a ≡ g.first → b ≡ g.second → c ≡ g.third → ◌≡◌ {A = Gate} (record { first = a; second = b; third = c }) g
same_gate a b c g p q r = rw (p, q, r)

-- a code is twice its node, and one more if complemented
plain_code : (c : ℕ) → complemented c ≡ false → 2 * node c ≡ c
plain_code c e = let f = ap one e in omega (arith, parity (c % 2) (omega arith))

complemented_code : (c : ℕ) → complemented c ≡ true → 2 * node c + 1 ≡ c
complemented_code c e = let f = ap one e in omega (arith, parity (c % 2) (omega arith))

rising_candidate : (n k : ℕ) (g : Gate) → complements g ≤ 1 → shapes.Rising g → GateBelow k g → CandidateOf n k g
rising_candidate n k g once rises below =
    at (complemented g.first) (complemented g.second) (complemented g.third) refl refl refl once
  where
    of : (x : Option FanIn) → gate_of (Rising (node g.first) (node g.second) (node g.third) x) ≡ g → CandidateOf n k g
    of x e = record {
      candidate = Rising (node g.first) (node g.second) (node g.third) x;
      is = (rises.0, rises.1, below.2);
      gate = e;
    }

    at : (x y z : Bool) → complemented g.first ≡ x → complemented g.second ≡ y → complemented g.third ≡ z
        → one x + one y + one z ≤ 1 → CandidateOf n k g
    at false false false p q r h =
        of None (same_gate _ _ _ g (plain_code _ p) (plain_code _ q) (plain_code _ r))
    at true false false p q r h =
        of (Some First) (same_gate _ _ _ g (complemented_code _ p) (plain_code _ q) (plain_code _ r))
    at false true false p q r h =
        of (Some Second) (same_gate _ _ _ g (plain_code _ p) (complemented_code _ q) (plain_code _ r))
    at false false true p q r h =
        of (Some Third) (same_gate _ _ _ g (plain_code _ p) (plain_code _ q) (complemented_code _ r))
    at true true z p q r h = absurd (omega arith)
    at true false true p q r h = absurd (omega arith)
    at false true true p q r h = absurd (omega arith)

buffer_candidate : (n k : ℕ) (g : Gate) → shapes.Buffer (n + 1) g → GateBelow k g → CandidateOf n k g
buffer_candidate n k g buffer below =
    record {
      candidate = Buffer (node g.third);
      is = (let low = buffer.source in omega arith, below.2);
      gate = same_gate _ _ _ g (sym buffer.first) (sym buffer.second) (plain_code g.third buffer.plain);
    }

-- every canonical gate of earlier nodes is the gate of a candidate
pub canonical_candidate : (n k : ℕ) (g : Gate) → CanonicalGate (n + 1) g → GateBelow k g → CandidateOf n k g
canonical_candidate n k g canonical below = at canonical.shape
  where
    at : shapes.Rising g ⊎ shapes.Buffer (n + 1) g → CandidateOf n k g
    at (inl rises) = rising_candidate n k g canonical.once rises below
    at (inr buffer) = buffer_candidate n k g buffer below

-- the complemented fan-in that is chosen
chosen : ℕ → Option FanIn
chosen zero = None
chosen (suc zero) = Some First
chosen (suc (suc zero)) = Some Second
chosen (suc (suc (suc _))) = Some Third

chosen_choice : (x : Option FanIn) → chosen (choice x) ≡ x
unfolding chosen
chosen_choice None = refl
chosen_choice (Some First) = refl
chosen_choice (Some Second) = refl
chosen_choice (Some Third) = refl

pub choice_small : (x : Option FanIn) → choice x < 4
choice_small None = omega arith
choice_small (Some First) = omega arith
choice_small (Some Second) = omega arith
choice_small (Some Third) = omega arith

same_choice : (x y : Option FanIn) → choice x ≡ choice y → x ≡ y
same_choice x y e = sym (chosen_choice x) ∙ ap chosen e ∙ chosen_choice y

-- a candidate has its rank to itself
pub same_rank : (n k : ℕ) (c d : Candidate) → k < 16 → IsCandidate n k c → IsCandidate n k d → rank c ≡ rank d → c ≡ d
same_rank n k (Rising a b c x) (Rising e f g y) few v w same =
    let i = choice_small x in
    let j = choice_small y in
    let p : a ≡ e = omega arith in
    let q : b ≡ f = omega arith in
    let r : c ≡ g = omega arith in
    let t : x ≡ y = same_choice x y (omega arith) in
    cc
same_rank n k (Rising a b c x) (Buffer s) few v w same = let i = choice_small x in absurd (omega arith)
same_rank n k (Buffer s) (Rising a b c x) few v w same = let i = choice_small x in absurd (omega arith)
same_rank n k (Buffer s) (Buffer t) few v w same = let e : s ≡ t = omega arith in ap Buffer e

-- the gate of a candidate names earlier nodes
pub candidate_below : (n k : ℕ) (c : Candidate) → IsCandidate n k c → GateBelow k (gate_of c)
candidate_below n k (Rising a b c None) is = (omega arith, omega arith, omega arith)
candidate_below n k (Rising a b c (Some First)) is = (omega arith, omega arith, omega arith)
candidate_below n k (Rising a b c (Some Second)) is = (omega arith, omega arith, omega arith)
candidate_below n k (Rising a b c (Some Third)) is = (omega arith, omega arith, omega arith)
candidate_below n k (Buffer s) is = (omega arith, omega arith, omega arith)

-- where the third node is below m, so is that of the gate
pub names_below : (m : ℕ) (c : Candidate) → NamesBelow m c → node (gate_of c).third < m
names_below m (Rising a b c None) below = omega arith
names_below m (Rising a b c (Some First)) below = omega arith
names_below m (Rising a b c (Some Second)) below = omega arith
names_below m (Rising a b c (Some Third)) below = omega arith
names_below m (Buffer s) below = absurd below
