-- How a collection opens: empty, or with a starter set.
use Rattle.std.specs.Prelude.{◌≡◌, ℕ, List, [], ◌∷◌, Option, Some, None}
use Rattle.mig.specs.declared.network.Gate.{Gate}
use Rattle.mig.specs.declared.network.Network.{Network}
use Rattle.mig.specs.declared.question.Question.{Question}
use Rattle.mig.specs.declared.refusal.Refusal.{Refusal}
use Rattle.mig.specs.Networks.{network_of}
use Rattle.mig.specs.Questions.{question_of}
use Rattle.entries.specs.Table.{Table}
use Rattle.collection_laws.specs.declared.call.Opening.{Opening}
use Rattle.collection_laws.specs.declared.call.Opening.TheVariants.{Empty, WithStarters}
use Rattle.collection_laws.specs.Calls.{deposits_refusal, Deposits}

-- a gate of three codes
abbrev pub gate : ℕ → ℕ → ℕ → Gate
gate a b c = record { first = a; second = b; third = c }

-- a table over three inputs, and the network of some gates and an output for it
abbrev pub starter : ℕ → List Gate → ℕ → ℕ × Network
starter table gates output = (table, network_of (record { gates = gates; output = output }))

-- the starter set: ten tables over three inputs, each with a network
abbrev pub starters : List (ℕ × Network)
starters =
    starter 0x80 (gate 0 2 4 ∷ gate 0 6 8 ∷ []) 10
    ∷ starter 0x28 (gate 0 4 6 ∷ gate 2 4 6 ∷ gate 0 9 10 ∷ []) 12
    ∷ starter 0xa8 (gate 0 2 4 ∷ gate 2 6 8 ∷ []) 10
    ∷ starter 0x16 (gate 1 2 4 ∷ gate 2 4 6 ∷ gate 1 6 8 ∷ gate 0 11 12 ∷ []) 14
    ∷ starter 0xe8 (gate 2 4 6 ∷ []) 8
    ∷ starter 0x81 (gate 0 2 4 ∷ gate 1 2 6 ∷ gate 0 4 7 ∷ gate 9 10 12 ∷ []) 15
    ∷ starter 0x52 (gate 0 2 4 ∷ gate 0 2 6 ∷ gate 2 6 9 ∷ gate 0 11 12 ∷ []) 14
    ∷ starter 0xd8 (gate 0 2 4 ∷ gate 0 2 5 ∷ gate 6 8 11 ∷ []) 12
    ∷ starter 0x6a (gate 0 2 4 ∷ gate 0 2 7 ∷ gate 2 4 6 ∷ gate 9 10 12 ∷ []) 14
    ∷ starter 0x96 (gate 2 4 6 ∷ gate 3 4 6 ∷ gate 2 9 10 ∷ []) 12
    ∷ []

-- how many gates each network of the starter set has
abbrev pub starter_gates : List ℕ
starter_gates = 2 ∷ 3 ∷ 2 ∷ 4 ∷ 1 ∷ 4 ∷ 4 ∷ 3 ∷ 4 ∷ 3 ∷ []

-- the question of a table of the starter set: three inputs, under the widest limits
abbrev pub starter_question : ℕ → Question
starter_question table = question_of 3 table (record { depth = 7; fan_out = 19 })

-- a deposit, which alters nothing where it is refused
abbrev pub DepositsUnless : Option Refusal → Question → Network → Table → Table → Type 0
DepositsUnless None q network t t' = Deposits q network t t'
DepositsUnless (Some e) q network t t' = t' ≡ t

-- a network of the starter set is deposited
abbrev pub DepositsOne : ℕ × Network → Table → Table → Type 0
DepositsOne x t t' = DepositsUnless (deposits_refusal (starter_question x.0) x.1 t) (starter_question x.0) x.1 t t'

-- networks of the starter set are deposited one after another
unfoldable pub DepositsAll : List (ℕ × Network) → Table → Table → Type 0
DepositsAll [] t t' = t' ≡ t
DepositsAll (x ∷ xs) t t' = (m : Table) × DepositsOne x t m × DepositsAll xs m t'

-- the table with which a collection opens: empty, or empty and then with each network of the starter set deposited
abbrev pub Opens : Opening → Table → Type 0
Opens Empty t = t ≡ []
Opens WithStarters t = DepositsAll starters [] t
