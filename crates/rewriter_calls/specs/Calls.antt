-- What the calls on numbers and bytes answer.
use Rattle.std.specs.Prelude.{◌≡◌, ℕ, ◌≤◌, List, Some, None, Ok, Err, Option, Result}
use Rattle.mig.specs.declared.network.Network.{Network}
use Rattle.mig.specs.declared.question.Question.{Question}
use Rattle.mig.specs.declared.refusal.Refusal.{Refusal}
use Rattle.mig.specs.declared.refusal.Refusal.TheVariants.{MalformedNetwork}
use Rattle.mig.specs.Networks.{Net, size}
use Rattle.mig.specs.Questions.{Meets, question_of}
use Rattle.mig.specs.Refusals.{number_of}
use Rattle.mig.specs.Rules.{question_refusal, examined}
use Rattle.records.specs.Records.{network_bytes}
use Rattle.records.specs.Reading.{network_spelled}

-- the question of four numbers
abbrev pub asked : ℕ → ℕ → ℕ → ℕ → Question
asked n table depth fan_out = question_of n table (record { depth = depth; fan_out = fan_out })

-- the number of an answer: 0, or that of the refusal
abbrev pub answer_number : {X : Type 0} → Result X Refusal → ℕ
answer_number (Ok x) = 0
answer_number (Err e) = number_of e

-- what a lent place has after a call: what the answer writes there, or what it had if the call is refused
abbrev pub place_after : {X : Type 0} → (X → ℕ) → Result X Refusal → ℕ → ℕ
place_after f (Ok x) before = f x
place_after f (Err e) before = before

-- the first refusal
abbrev pub refusal_or : Option Refusal → Refusal → Refusal
refusal_or (Some e) later = e
refusal_or None later = later

-- the answer of `examine` to what bytes spell; without a network, the question is refused first
abbrev pub spelled_examined : Question → Option Network → Result (ℕ × ℕ) Refusal
spelled_examined q (Some network) = examined q network
spelled_examined q None = Err (refusal_or (question_refusal q) MalformedNetwork)

-- the answer of `examine` to a network as bytes
abbrev pub bytes_examined : Question → List ℕ → Result (ℕ × ℕ) Refusal
bytes_examined q bytes = spelled_examined q (network_spelled bytes)

-- the bytes are those of a network that meets the question
pub record BytesMeet (q : Question) (bytes : List ℕ) : Type 0 where
  pub network : Net
  pub bytes_are : bytes ≡ network_bytes network
  pub few : size network ≤ 7
  pub meets : Meets q network
