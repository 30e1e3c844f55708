-- The gates that are placed, and what the search answers.
use Rattle.std.specs.Prelude.{◌≡◌, ℕ, List, length, Some, None, Option}
use Rattle.mig.specs.declared.network.Gate.{Gate}
use Rattle.mig.specs.declared.network.Network.{Network}
use Rattle.mig.specs.declared.question.Question.{Question}
use Rattle.mig.specs.Networks.{net_of, network_of}
use Rattle.value_kinds.specs.declared.kinds.Column.{Column}
use Rattle.search.specs.Meaning.{Holds, NoneWithin}
use Rattle.enumeration_laws.specs.Columns.{CodeColumns}
use Rattle.enumeration_laws.specs.Prefixes.{with_last_node}

-- the gates of a network's places
abbrev pub placed : Network → List Gate
placed network = (net_of network).gates

-- a prefix over n inputs: its output is the last node, the places behind its gates are 0, and the list has the
-- columns of its codes
pub record IsPrefix (n : ℕ) (network : Network) (list : List Column) : Type 0 where
  pub written : network ≡ network_of (with_last_node n (placed network))
  pub columns : CodeColumns n (placed network) list
  pub room : length list ≡ 24

-- found: a network of at most r gates that meets the question; else there is none, in the sense that is given
abbrev pub FoundOr : Type 0 → Question → ℕ → Option Network → Type 0
FoundOr Absent q r (Some network) = Holds q r network
FoundOr Absent q r None = Absent

-- found exactly when a network of at most r gates meets the question
abbrev pub FoundWithin : Question → ℕ → Option Network → Type 0
FoundWithin q r found = FoundOr (NoneWithin q r) q r found
