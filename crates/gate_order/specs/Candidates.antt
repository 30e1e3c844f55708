-- The candidates for the next gate over n inputs, where k nodes stand, and their order.
use Rattle.std.specs.Prelude.{ℕ, ◌+◌, ◌*◌, ◌<◌, ◌≤◌, cond, Some, None, Option, nat_lt}
use Rattle.mig.specs.declared.network.Gate.{Gate}
use Rattle.gate_order.specs.declared.FanIn.{FanIn}
use Rattle.gate_order.specs.declared.FanIn.TheVariants.{First, Second, Third}
use Rattle.gate_order.specs.declared.Candidate.{Candidate}
use Rattle.gate_order.specs.declared.Candidate.TheVariants.{Rising, Buffer}

-- the gate of a candidate: its nodes, one complemented or none; a buffer is of 0, not 0 and the node
abbrev pub gate_of : Candidate → Gate
gate_of (Rising a b c None) = record { first = 2 * a; second = 2 * b; third = 2 * c }
gate_of (Rising a b c (Some First)) = record { first = 2 * a + 1; second = 2 * b; third = 2 * c }
gate_of (Rising a b c (Some Second)) = record { first = 2 * a; second = 2 * b + 1; third = 2 * c }
gate_of (Rising a b c (Some Third)) = record { first = 2 * a; second = 2 * b; third = 2 * c + 1 }
gate_of (Buffer source) = record { first = 0; second = 1; third = 2 * source }

-- a candidate over n inputs where k nodes stand: the nodes rise, or the buffer is that of a gate
abbrev pub IsCandidate : ℕ → ℕ → Candidate → Type 0
IsCandidate n k (Rising a b c x) = (a < b) × (b < c) × (c < k)
IsCandidate n k (Buffer source) = (n < source) × (source < k)

-- the place of a complemented fan-in among its choices: none, the first, the second, the third
abbrev pub choice : Option FanIn → ℕ
choice None = 0
choice (Some First) = 1
choice (Some Second) = 2
choice (Some Third) = 3

-- candidates are tried in the order of their ranks, the buffers last; where fewer than 16 nodes stand, each has its
-- own rank
abbrev pub rank : Candidate → ℕ
rank (Rising a b c x) = ((c * 16 + b) * 16 + a) * 4 + choice x
rank (Buffer source) = 16384 + source

-- the buffer of a node, if it stands
abbrev pub buffer_of : ℕ → ℕ → Option Candidate
buffer_of k source = cond (nat_lt source k) (Some (Buffer source)) None

-- the first candidate with a third node; where that does not stand, the first buffer, if there is one
abbrev pub first_naming : ℕ → ℕ → ℕ → Option Candidate
first_naming n k third = cond (nat_lt third k) (Some (Rising 0 1 third None)) (buffer_of k (n + 1))

-- the first candidate with other nodes behind those of three nodes
abbrev pub next_nodes : ℕ → ℕ → ℕ → ℕ → ℕ → Option Candidate
next_nodes n k a b c =
    cond (nat_lt (a + 1) b) (Some (Rising (a + 1) b c None))
    (cond (nat_lt (b + 1) c) (Some (Rising 0 (b + 1) c None)) (first_naming n k (c + 1)))

-- the candidate behind another, if there is one
abbrev pub following : ℕ → ℕ → Candidate → Option Candidate
following n k (Rising a b c None) = Some (Rising a b c (Some First))
following n k (Rising a b c (Some First)) = Some (Rising a b c (Some Second))
following n k (Rising a b c (Some Second)) = Some (Rising a b c (Some Third))
following n k (Rising a b c (Some Third)) = next_nodes n k a b c
following n k (Buffer source) = buffer_of k (source + 1)

-- x comes before the next candidate, if there is a next one
abbrev pub Before : Candidate → Option Candidate → Type 0
Before x None = Unit {0}
Before x (Some d) = rank x < rank d

-- no candidate is between c and the next one, or behind c if there is no next one
abbrev pub NoneBetween : ℕ → ℕ → Candidate → Option Candidate → Type 0
NoneBetween n k c next = (x : Candidate) → IsCandidate n k x → Before x next → rank x ≤ rank c

-- the third node of a candidate is below m; no buffer is such a candidate
abbrev pub NamesBelow : ℕ → Candidate → Type 0
NamesBelow m (Rising a b c x) = c < m
NamesBelow m (Buffer source) = ⊥
