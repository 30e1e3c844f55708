-- The rules of a collection's calls: what each leaves, and what it answers.
use Rattle.std.specs.Prelude.{◌≡◌, ℕ, cond, List, [], ◌++◌, length, drop, Option, Some, None, nat_lt, nat_le}
use Rattle.std.specs.List.{flat_map}
use Rattle.mig.specs.declared.network.Network.{Network}
use Rattle.mig.specs.declared.question.Question.{Question}
use Rattle.mig.specs.declared.refusal.Refusal.{Refusal}
use Rattle.mig.specs.declared.refusal.Refusal.TheVariants.{BufferTooShort}
use Rattle.mig.specs.Networks.{net_of, size}
use Rattle.mig.specs.Rules.{or_else, refuse_if, question_refusal, examine_refusal}
use Rattle.search.specs.Meaning.{raised, ask_refusal}
use Rattle.filing.specs.declared.key.Key.{Key}
use Rattle.filing.specs.Filing.{key_of, key_question, CarriedIn, CarriedOut}
use Rattle.entry.specs.Held.{Held}
use Rattle.settling.specs.Settles.{Settles}
use Rattle.entries.specs.Table.{Table, kept_or_new, put, full_refusal, missing_refusal, deposit_refusal, with_network}
use Rattle.records.specs.Records.{record_bytes}
use Rattle.collection_laws.specs.declared.answer.Answer.{Answer}
use Rattle.collection_laws.specs.declared.answer.Answer.TheVariants.{Given, NoneWithin, Known}

-- what does not change while calls are made: the reach and the need of the search, and how many work words are lent
pub record Setting : Type 0 where
  pub reach : ℕ
  pub need : ℕ
  pub words : ℕ

-- what calls change: the search's count, the table, and the buffer that exports write to
pub record State : Type 0 where
  pub count : ℕ
  pub table : Table
  pub buffer : List ℕ

-- the state with another table
abbrev pub with_table : State → Table → State
with_table b t = record { count = b.count; table = t; buffer = b.buffer }

-- Orders.

-- what an order is refused for, in this order
abbrev pub order_refusal : Setting → Question → ℕ → Table → Option Refusal
order_refusal s q g t = or_else (ask_refusal q g s.reach s.need s.words) (full_refusal t (key_of q))

-- a network, if it has at most g gates
abbrev pub within : ℕ → Option Network → Option Network
within g None = None
within g (Some network) = cond (nat_le network.count g) (Some network) None

-- the kept network that an order gives, where h was kept before it and h' after it: none if the lower number was above its limit
abbrev pub network_given : ℕ → Held → Held → Option Network
network_given g h h' = cond (nat_lt g h.lower) None (within g h'.network)

-- the answer to an order: the network carried out to the question, or none; the way of carrying is left open
abbrev pub AnswersOrder : Question → Option Network → ℕ → ℕ → Answer → Type 0
AnswersOrder q None lower asked answer = answer ≡ NoneWithin lower asked
AnswersOrder q (Some network) lower asked answer =
    (out : Network) × CarriedOut q (net_of network) out × (answer ≡ Given out lower asked)

-- an order with the gate limit g
pub record Orders (q : Question) (g : ℕ) (before : State) (answer : Answer) (after : State) : Type 0 where
  pub held : Held
  pub asked : ℕ
  pub settles : Settles (key_of q) g (kept_or_new before.table (key_of q)) held asked
  pub leaves : after ≡ record { count = raised before.count asked; table = put before.table (key_of q) held; buffer = before.buffer }
  pub answers : AnswersOrder q (network_given g (kept_or_new before.table (key_of q)) held) held.lower asked answer

-- Deposits.

-- what a deposit is refused for, in this order
abbrev pub deposits_refusal : Question → Network → Table → Option Refusal
deposits_refusal q network t = or_else (examine_refusal q network) (deposit_refusal t (key_of q) (size (net_of network)))

-- a deposit puts the network, carried in to the key of the question, in place of the kept one; the lower number stays
pub record Deposits (q : Question) (network : Network) (before after : Table) : Type 0 where
  pub carried : Network
  pub by_a_way : CarriedIn q (net_of network) carried
  pub leaves : after ≡ put before (key_of q) (with_network (kept_or_new before (key_of q)) carried)

-- Look-ups and strikes.

-- what a look-up and a strike are refused for, in this order
abbrev pub look_up_refusal : Question → Table → Option Refusal
look_up_refusal q t = or_else (question_refusal q) (missing_refusal t (key_of q))

-- the answer to a look-up: the lower number, and the upper number with the kept network carried out to the question
abbrev pub AnswersLookUp : Question → ℕ → Option Network → Answer → Type 0
AnswersLookUp q lower None answer = answer ≡ Known lower None
AnswersLookUp q lower (Some network) answer =
    (out : Network) × CarriedOut q (net_of network) out × (answer ≡ Known lower (Some (network.count, out)))

-- Exports.

-- the record of a key, if a network is kept
abbrev pub bytes_of : Key → ℕ → Option Network → List ℕ
bytes_of k lower None = []
bytes_of k lower (Some network) = record_bytes (key_question k) lower (net_of network)

-- the records of a table, in the order of the keys
abbrev pub export_bytes : Table → List ℕ
export_bytes t = flat_map (λ row. bytes_of row.0 row.1.lower row.1.network) t

-- what an export of a table to a buffer of so many bytes is refused for
abbrev pub too_short : Table → ℕ → Option Refusal
too_short t room = refuse_if (nat_lt room (length (export_bytes t))) BufferTooShort

abbrev pub export_refusal : State → Option Refusal
export_refusal b = too_short b.table (length b.buffer)

-- the buffer with bytes written at its front; those behind stay
abbrev pub written : List ℕ → List ℕ → List ℕ
written bytes buffer = bytes ++ drop (length bytes) buffer
