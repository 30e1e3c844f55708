-- What is kept of a key.
use Rattle.std.specs.Prelude.{ℕ, ◌+◌, min, Bool, false, Option, Some, None, ◌==◌, IfSome}
use Rattle.mig.specs.declared.network.Network.{Network}
use Rattle.filing.specs.declared.key.Key.{Key}
use Rattle.filing.specs.Filing.{key_question, Keepable}
use Rattle.entry.specs.declared.entry.Entry.{Entry}
use Rattle.entry.specs.Bounds.{LowerBound}

-- what is kept of a key: its lower number L, and perhaps a network, whose gate number is the upper number U
pub record Held : Type 0 where
  pub lower : ℕ
  pub network : Option Network

-- what an entry keeps of its key
abbrev pub held : Entry → Held
held e = record { lower = e.lower; network = e.network }

-- what is kept of a new key: lower number 0, and no network
abbrev pub nothing : Held
nothing = record { lower = 0; network = None }

-- the gates of a network, if there is one
abbrev pub gates_of : Option Network → Option ℕ
gates_of None = None
gates_of (Some network) = Some network.count

-- the upper number
abbrev pub upper : Held → Option ℕ
upper h = gates_of h.network

-- a number is there, and is l
abbrev pub is_number : ℕ → Option ℕ → Bool
is_number l None = false
is_number l (Some u) = u == l

-- settled: the upper number is the lower number
abbrev pub is_settled : Held → Bool
is_settled h = is_number h.lower (upper h)

-- the lesser of a number and another, if that is there
abbrev pub at_most : ℕ → Option ℕ → ℕ
at_most g None = g
at_most g (Some u) = min g u

-- the first number that an order with the gate limit g does not ask: one above the limit, or the upper number if that is less
abbrev pub stop : ℕ → Held → ℕ
stop g h = at_most (g + 1) (upper h)

-- what is kept is right: the lower number is a lower bound for every network that meets the key's question, and the
-- network may be kept under the key
pub record Sound (k : Key) (h : Held) : Type 0 where
  pub lower_bound : LowerBound (key_question k) h.lower
  pub keepable : IfSome h.network (Keepable k)
