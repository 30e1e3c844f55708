-- The state of a collection, and its answers, in the words of the rules.
use Rattle.std.specs.Prelude.{◌≡◌, ℕ, List, cond, Option, Some, None}
use Rattle.mig.specs.declared.network.Network.{Network}
use Rattle.mig.specs.declared.question.Question.{Question}
use Rattle.mig.specs.Networks.{net_of}
use Rattle.filing.specs.Filing.{CarriedOut}
use Rattle.entries.specs.declared.entries.Entries.{Entries}
use Rattle.entries.specs.Rows.{table}
use Rattle.collection_laws.specs.declared.answer.Answer.{Answer}
use Rattle.collection_laws.specs.declared.answer.Answer.TheVariants.{Given, NoneWithin, Known}
use Rattle.collection_laws.specs.declared.answer.Ordered.{Ordered}
use Rattle.collection_laws.specs.declared.answer.LookedUp.{LookedUp}
use Rattle.collection_laws.specs.Calls.{State}

-- the state of a collection with the count of its search, its entries, and a buffer
abbrev pub state : ℕ → Entries → List ℕ → State
state count entries buffer = record { count = count; table = table entries; buffer = buffer }

-- the answer to an order, with what is in the place
abbrev pub order_answer : Ordered → Network → Answer
order_answer o place = cond o.given (Given place o.lower o.asked) (NoneWithin o.lower o.asked)

-- an upper number, with what is in the place
abbrev pub with_place : Option ℕ → Network → Option (ℕ × Network)
with_place None place = None
with_place (Some gates) place = Some (gates, place)

-- the answer to a look-up, with what is in the place
abbrev pub look_up_answer : LookedUp → Network → Answer
look_up_answer l place = Known l.lower (with_place l.upper place)

-- a kept network is carried out into the place, or the place stays; the way of carrying is left open
abbrev pub GivenOut : Question → Option Network → Network → Network → Type 0
GivenOut q None before after = after ≡ before
GivenOut q (Some network) before after = CarriedOut q (net_of network) after
