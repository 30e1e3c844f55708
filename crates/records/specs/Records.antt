-- Records: a length of two bytes, a kind of two bytes, and a body. A number of two bytes has its lower byte first.
use Rattle.std.specs.Prelude.{ℕ, zero, suc, ◌+◌, ◌*◌, ◌/◌, ◌%◌, not, ◌||◌, List, [], ◌∷◌, ◌++◌, length, take, drop, Option, Result, nat_lt, ◌==◌, slice_index_or}
use Rattle.std.specs.List.{flat_map}
use Rattle.mig.specs.declared.network.Gate.{Gate}
use Rattle.mig.specs.declared.network.Network.{Network}
use Rattle.mig.specs.declared.question.Question.{Question}
use Rattle.mig.specs.declared.refusal.Refusal.{Refusal}
use Rattle.mig.specs.declared.refusal.Refusal.TheVariants.{MalformedNetwork, BytesEndInRecord, WrongRecordLength, UnknownRecordKind}
use Rattle.mig.specs.Networks.{Net, size, empty_gate, network_of}
use Rattle.mig.specs.Questions.{question_of}
use Rattle.mig.specs.Rules.{or_else, refuse_if, unless_refused}
use Rattle.records.specs.declared.reading.Record.{Record}

-- the number of two bytes
abbrev pub word : ℕ → ℕ → ℕ
word low high = low + 256 * high

-- the two bytes of a number
abbrev pub word_bytes : ℕ → List ℕ
word_bytes w = w % 256 ∷ (w / 256 % 256 ∷ [])

-- the byte at a place, and the number of two bytes there
abbrev pub byte : List ℕ → ℕ → ℕ
byte bytes i = slice_index_or bytes i 0

abbrev pub word_at : List ℕ → ℕ → ℕ
word_at bytes i = word (byte bytes i) (byte bytes (i + 1))

-- how many bytes the record at the head takes: the two of its length, and as many as that says
abbrev pub record_length : List ℕ → ℕ
record_length bytes = 2 + word_at bytes 0

-- why no record begins at the head of the bytes, the first that applies: the bytes end before it does, also where fewer
-- than two are left; its length has no room for a kind; its kind is not 1; its length is not ten and three codes for each gate
abbrev pub record_fault : List ℕ → Option Refusal
record_fault bytes =
    or_else (refuse_if (nat_lt (length bytes) (record_length bytes)) BytesEndInRecord)
    (or_else (refuse_if (nat_lt (word_at bytes 0) 2) WrongRecordLength)
    (or_else (refuse_if (not (word_at bytes 2 == 1)) UnknownRecordKind)
    (refuse_if (nat_lt (word_at bytes 0) 10 || not (word_at bytes 0 == 10 + 3 * byte bytes 10)) WrongRecordLength)))

-- the gate of the first three codes, and the codes behind it; the empty gate, and none behind, where fewer are left
abbrev pub first_gate : List ℕ → Gate × List ℕ
first_gate (a ∷ b ∷ c ∷ codes) = (record { first = a; second = b; third = c }, codes)
first_gate _ = (empty_gate, [])

-- m places with the first gates of the codes, three codes a gate; empty behind them
unfoldable pub gates_from : ℕ → List ℕ → List Gate
gates_from zero codes = []
gates_from (suc m) codes = (first_gate codes).0 ∷ gates_from m (first_gate codes).1

-- the network of k gates that codes spell: three for each gate, of which the first seven stand, then that of the output
abbrev pub network_at : ℕ → List ℕ → Network
network_at k codes = record { count = k; gates = gates_from 7 (take (3 * k) codes); output = byte codes (3 * k) }

-- the question and the network of a record of kind 1; the byte at place 9, a lower number, is dropped
abbrev pub record_in : List ℕ → Record
record_in bytes =
    record {
      question = question_of (byte bytes 4) (word_at bytes 5) (record { depth = byte bytes 7; fan_out = byte bytes 8 });
      network = network_at (byte bytes 10) (drop 11 bytes);
    }

-- what begins at the head of the bytes: a record, or why there is none
abbrev pub record_at : List ℕ → Result Record Refusal
record_at bytes = unless_refused (record_fault bytes) (record_in bytes)

-- the record of a network for a question: the places behind its gates are 0
abbrev pub record_of : Question → Net → Record
record_of q net = record { question = q; network = network_of net }

-- the codes of a gate
abbrev pub gate_codes : Gate → List ℕ
gate_codes g = g.first ∷ (g.second ∷ (g.third ∷ []))

-- the bytes of a network: the number of gates, three codes for each, and the output's code
abbrev pub network_bytes : Net → List ℕ
network_bytes net = size net ∷ (flat_map gate_codes net.gates ++ (net.output ∷ []))

-- what stands before the codes of k gates: the length, the kind 1, and the numbers of the body
abbrev pub record_head : Question → ℕ → ℕ → List ℕ
record_head q lower k =
    word_bytes (10 + 3 * k) ++ word_bytes 1 ++ (q.inputs ∷ word_bytes q.table)
    ++ (q.limits.depth ∷ (q.limits.fan_out ∷ (lower ∷ (k ∷ []))))

-- the bytes of the record of a network for a question, with a lower number
abbrev pub record_bytes : Question → ℕ → Net → List ℕ
record_bytes q lower net = record_head q lower (size net) ++ flat_map gate_codes net.gates ++ (net.output ∷ [])

-- what writing a record refuses: a network of more than seven gates
abbrev pub encode_refusal : Network → Option Refusal
encode_refusal network = refuse_if (nat_lt 7 network.count) MalformedNetwork
