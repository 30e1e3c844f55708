-- What the iterator over the candidates gives.
use Rattle.std.specs.Prelude.{◌≡◌, ℕ, ◌+◌, ◌-◌, Some, None, Option, IfSome, MatchOption}
use Rattle.mig.specs.declared.network.Gate.{Gate}
use Rattle.gate_order.specs.declared.Candidate.{Candidate}
use Rattle.gate_order.specs.Candidates.{gate_of, IsCandidate, rank, following}
use Rattle.find.specs.declared.candidates.Candidates.{Candidates}

-- the next one is a candidate, if there is a next one
abbrev pub IsAtCandidate : Candidates → Type 0
IsAtCandidate s = IfSome s.next (IsCandidate s.nodes.inputs (s.nodes.inputs + 1 + s.nodes.gates))

-- from s on, the gate of the next candidate is given, or there is none; t goes on with the candidate that follows
abbrev pub GivesCandidate : Candidates → Option Gate → Candidates → Type 0
GivesCandidate s r t =
    (t.nodes ≡ s.nodes)
    × MatchOption r ((s.next ≡ None) × (t.next ≡ None))
    (λ g. (c : Candidate) × (s.next ≡ Some c) × (g ≡ gate_of c) ×
    (t.next ≡ following s.nodes.inputs (s.nodes.inputs + 1 + s.nodes.gates) c))

-- a bound of the number of candidates from the next one on
abbrev pub ranks_left : Option Candidate → ℕ
ranks_left None = 0
ranks_left (Some c) = 32768 - rank c
