-- A record read from the left: what follows its length, and the body in that.
use Rattle.std.specs.Prelude.{ℕ, ◌+◌, ◌*◌, List, [], ◌∷◌, length, Option, Some, None, Result, Ok, Err, ◌==◌, if◌then◌else◌}
use Rattle.mig.specs.declared.network.Network.{Network}
use Rattle.mig.specs.declared.question.Question.{Question}
use Rattle.mig.specs.declared.refusal.Refusal.{Refusal}
use Rattle.mig.specs.declared.refusal.Refusal.TheVariants.{WrongRecordLength, UnknownRecordKind}
use Rattle.mig.specs.Questions.{question_of}
use Rattle.records.specs.declared.reading.Record.{Record}
use Rattle.records.specs.Records.{word, network_at}

-- the network that bytes spell: the number of gates, three codes for each, and the output's code; nothing may be left
abbrev pub network_spelled : List ℕ → Option Network
network_spelled (k ∷ codes) = if length codes == 3 * k + 1 then Some (network_at k codes) else None
network_spelled [] = None

-- the record of a question and what was spelled behind it
abbrev pub record_with : Question → Option Network → Result Record Refusal
record_with q (Some spelled) = Ok (record { question = q; network = spelled })
record_with q None = Err WrongRecordLength

-- a body: the number of inputs, the table, the two limits, a lower number that is dropped, and the bytes of a network
abbrev pub body_at : List ℕ → Result Record Refusal
body_at (n ∷ low ∷ high ∷ depth ∷ fan_out ∷ lower ∷ bytes) =
    record_with (question_of n (word low high) (record { depth = depth; fan_out = fan_out })) (network_spelled bytes)
body_at _ = Err WrongRecordLength

-- what follows the length: the kind 1, and a body
abbrev pub content_at : List ℕ → Result Record Refusal
content_at (low ∷ high ∷ body) = if word low high == 1 then body_at body else Err UnknownRecordKind
content_at _ = Err WrongRecordLength
