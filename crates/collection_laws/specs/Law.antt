-- The law of runs: what the answers of a collection are worth.
use Rattle.std.specs.Prelude.{◌≡◌, ℕ, ◌≤◌, List, [], ◌∷◌, Option, None, Some, Ok}
use Rattle.std.specs.List.{AllByRecursion}
use Rattle.mig.specs.declared.network.Network.{Network}
use Rattle.mig.specs.declared.question.Question.{Question}
use Rattle.mig.specs.Networks.{net_of, size}
use Rattle.mig.specs.Questions.{Meets}
use Rattle.search.specs.Meaning.{NoneWithin}
use Rattle.entry.specs.Bounds.{LowerBound}
use Rattle.entry.specs.Held.{Sound}
use Rattle.entries.specs.Table.{Table}
use Rattle.collection_laws.specs.declared.answer.Answer.{Answer}
use Rattle.collection_laws.specs.declared.answer.Answer.TheVariants as answers
use Rattle.collection_laws.specs.declared.call.Call.{Call}
use Rattle.collection_laws.specs.declared.call.Call.TheVariants as calls
use Rattle.collection_laws.specs.Runs.{Reply}

-- the network meets the question with l gates, and every majority network that meets it has at least as many
pub record Minimum (q : Question) (l : ℕ) (network : Network) : Type 0 where
  pub meets : Meets q (net_of network)
  pub gates : size (net_of network) ≡ l
  pub least : LowerBound q l

-- An order with the gate limit g. A network that is given is a minimum, with no more gates than the limit; the answer is "none" exactly
-- when no majority network within the limit meets the question; the answered lower number is a lower bound.
abbrev pub RightOrder : Question → ℕ → Answer → Type 0
RightOrder q g (answers.Given network lower asked) = Minimum q lower network × (lower ≤ g) × (NoneWithin q g → ⊥)
RightOrder q g (answers.NoneWithin lower asked) = NoneWithin q g × LowerBound q lower
RightOrder q g _ = ⊥

-- a network that a look-up gives meets the question, and the upper number beside it is the number of its gates
abbrev pub MeetsIfGiven : Question → Option (ℕ × Network) → Type 0
MeetsIfGiven q None = Unit {0}
MeetsIfGiven q (Some kept) = Meets q (net_of kept.1) × (size (net_of kept.1) ≡ kept.0)

-- a look-up: the answered lower number is a lower bound, and a network that is given meets the question and has the answered gates
abbrev pub RightLookUp : Question → Answer → Type 0
RightLookUp q (answers.Known lower kept) = LowerBound q lower × MeetsIfGiven q kept
RightLookUp q _ = ⊥

-- what the reply to a call is worth: a refusal and the other answers say nothing of networks
abbrev pub Right : Call → Reply → Type 0
Right (calls.Order q g) (Ok answer) = RightOrder q g answer
Right (calls.LookUp q) (Ok answer) = RightLookUp q answer
Right _ _ = Unit {0}

-- every reply is right
unfoldable pub AllRight : List Call → List Reply → Type 0
AllRight [] [] = Unit {0}
AllRight [] (r ∷ rs) = ⊥
AllRight (c ∷ cs) [] = ⊥
AllRight (c ∷ cs) (r ∷ rs) = Right c r × AllRight cs rs

-- what is kept of every key is right
abbrev pub SoundTable : Table → Type 0
SoundTable t = AllByRecursion (λ row. Sound row.0 row.1) t
