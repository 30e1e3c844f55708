-- The networks that begin with given gates.
use Rattle.std.specs.Prelude.{◌≡◌, ℕ, ◌+◌, ◌*◌, ◌<◌, ◌≤◌, List, [], ◌∷◌, ◌++◌, length, Option}
use Rattle.mig.specs.declared.network.Gate.{Gate}
use Rattle.mig.specs.declared.question.Question.{Question}
use Rattle.mig.specs.Networks.{Net, node}
use Rattle.mig.specs.Questions.{Meets}
use Rattle.canonical_laws.specs.Canonical.{Canonical}
use Rattle.gate_order.specs.declared.Candidate.{Candidate}
use Rattle.gate_order.specs.Candidates.{gate_of, IsCandidate, Before}

-- a canonical network that meets the question and begins with the gates, with at least one gate behind them and at most `left`
pub record Extends (q : Question) (before : List Gate) (left : ℕ) (net : Net) : Type 0 where
  pub behind : List Gate
  pub gates : net.gates ≡ before ++ behind
  pub some : 1 ≤ length behind
  pub few : length behind ≤ left
  pub meets : Meets q net
  pub canonical : Canonical q.inputs net

-- there is no such network
abbrev pub NoneExtends : Question → List Gate → ℕ → Type 0
NoneExtends q before left = (net : Net) → Extends q before left net → ⊥

-- no such network has the gate g behind the given ones
abbrev pub NoneGoesOn : Question → List Gate → ℕ → Gate → Type 0
NoneGoesOn q before left g = (net : Net) (behind : List Gate) → net.gates ≡ before ++ g ∷ behind → length behind < left → Meets q net → Canonical q.inputs net → ⊥

-- no network meets the question whose last gate is g, behind the given ones, and whose output is that gate
abbrev pub NoneEndsWith : Question → List Gate → Gate → Type 0
NoneEndsWith q before g = (net : Net) → net.gates ≡ before ++ g ∷ [] → node net.output ≡ q.inputs + 1 + length before → Meets q net → ⊥

-- no network without gates meets the question
abbrev pub NoneWithoutGates : Question → Type 0
NoneWithoutGates q = (net : Net) → net.gates ≡ [] → Meets q net → ⊥

-- no such network goes on with the gate of a candidate before the next one, or of any if there is no next one;
-- k nodes stand
abbrev pub NoneBefore : Question → List Gate → ℕ → ℕ → Option Candidate → Type 0
NoneBefore q before left k next = (x : Candidate) → IsCandidate q.inputs k x → Before x next
    → NoneGoesOn q before left (gate_of x)

-- the gates with one more behind them, and an output
abbrev pub with_gate : List Gate → Gate → ℕ → Net
with_gate before g output = record { gates = before ++ g ∷ []; output = output }

-- the gates over n inputs, with the last node as output
abbrev pub with_last_node : ℕ → List Gate → Net
with_last_node n gates = record { gates = gates; output = 2 * (n + length gates) }

-- the network without gates whose output is the code
abbrev pub without_gates : ℕ → Net
without_gates output = record { gates = []; output = output }
