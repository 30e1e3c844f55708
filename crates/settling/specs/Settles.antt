-- What an order leaves kept of its key, and how many numbers of gates it asks.
use Rattle.std.specs.Prelude.{◌≡◌, ℕ, ◌+◌, ◌-◌, ◌<◌, ◌≤◌, Bool, true, false, ◌||◌, ◌⊎◌, Some, nat_lt}
use Rattle.mig.specs.declared.network.Network.{Network}
use Rattle.mig.specs.Networks.{net_of, network_of}
use Rattle.mig.specs.Normal.{normalised}
use Rattle.search.specs.Meaning.{Holds}
use Rattle.least_gates.specs.Asked.{NoneFrom}
use Rattle.filing.specs.declared.key.Key.{Key}
use Rattle.filing.specs.Filing.{key_question}
use Rattle.entry.specs.Held.{Held, is_settled, stop}

-- an order with the gate limit g asks nothing: the lower number is above the limit, or what is kept is settled
abbrev pub asks_nothing : ℕ → Held → Bool
asks_nothing g h = nat_lt g h.lower || is_settled h

-- the first number that is enough: the network that is found is normalised and kept, and the lower number is that number
pub record Found (k : Key) (g : ℕ) (h h' : Held) (asked : ℕ) : Type 0 where
  -- the network that the search found, which is left open, in its seven places
  pub found : Network
  pub least : ℕ
  pub in_places : found.count ≤ 7
  pub holds : Holds (key_question k) least found
  pub not_below : h.lower ≤ least
  pub before_stop : least < stop g h
  pub none_before : NoneFrom (key_question k) h.lower least
  pub kept : h' ≡ record { lower = least; network = Some (network_of (normalised 4 (net_of found))) }
  pub all_counted : asked ≡ least + 1 - h.lower

-- no number is enough: the lower number is one more than the last that was asked, and the network stays
pub record NoneFound (k : Key) (g : ℕ) (h h' : Held) (asked : ℕ) : Type 0 where
  pub some_asked : h.lower < stop g h
  pub none : NoneFrom (key_question k) h.lower (stop g h)
  pub kept : h' ≡ record { lower = stop g h; network = h.network }
  pub all_counted : asked ≡ stop g h - h.lower

abbrev pub SettlesIf : Bool → Key → ℕ → Held → Held → ℕ → Type 0
SettlesIf true k g h h' asked = (h' ≡ h) × (asked ≡ 0)
SettlesIf false k g h h' asked = Found k g h h' asked ⊎ NoneFound k g h h' asked

-- an order with the gate limit g leaves h' kept where h was kept of the key k, and asks so many numbers: the lower number, one
-- more, and so on before the stop, up to the first that is enough
abbrev pub Settles : Key → ℕ → Held → Held → ℕ → Type 0
Settles k g h h' asked = SettlesIf (asks_nothing g h) k g h h' asked
