-- What the calls on clauses answer: which refusal, or which value.
use Rattle.std.specs.Prelude.{ℕ, ◌+◌, Bool, true, false, cond, not, ◌&&◌, ◌||◌, List, [], ◌∷◌, ◌++◌, map, length, drop, Some, None, Option, Result, ◌==◌, nat_le, nat_lt}
use Rattle.std.specs.List.{list_all}
use Rattle.mig.specs.declared.network.Network.{Network}
use Rattle.mig.specs.declared.question.Question.{Question}
use Rattle.mig.specs.declared.refusal.Refusal.{Refusal}
use Rattle.mig.specs.declared.refusal.Refusal.TheVariants.{GatesAboveReach, BufferTooShort, NoAssignment, ClauseFails}
use Rattle.mig.specs.Networks.{net_of, network_of}
use Rattle.mig.specs.Rules.{or_else, refuse_if, unless_refused, question_refusal, examine_refusal}
use Rattle.cnf.specs.Meaning.{padded, meaning}
use Rattle.cnf.specs.Numbers.{question_variables, question_clauses, all_hold, read_bits}
use Rattle.cnf.specs.Text.{question_text}

-- what any call on the clauses of a question and r gates is refused for, in this order
abbrev pub clauses_refusal : Question → ℕ → Option Refusal
clauses_refusal q r = or_else (question_refusal q) (refuse_if (nat_lt 7 r) GatesAboveReach)

-- the clause text: last, a buffer shorter than the text
abbrev pub text_refusal : Question → ℕ → ℕ → Option Refusal
text_refusal q r room = or_else (clauses_refusal q r) (refuse_if (nat_lt room (length (question_text q r))) BufferTooShort)

-- the answer of the clause text: the number of bytes
abbrev pub text_answer : Question → ℕ → ℕ → Result ℕ Refusal
text_answer q r room = unless_refused (text_refusal q r room) (length (question_text q r))

-- bytes written from the beginning of a buffer on: those behind them stay
abbrev pub written_over : List ℕ → List ℕ → List ℕ
written_over bytes before = bytes ++ drop (length bytes) before

-- the buffer after a call that writes bytes unless it is refused
abbrev pub buffer_after : Option Refusal → List ℕ → List ℕ → List ℕ
buffer_after (Some e) bytes before = before
buffer_after None bytes before = written_over bytes before

-- the bits that bytes say
abbrev pub bits_of_bytes : List ℕ → List Bool
bits_of_bytes bytes = map (λ b. b == 1) bytes

-- one byte of 0 or 1 for each variable
abbrev pub is_assignment : Question → ℕ → List ℕ → Bool
is_assignment q r bytes = (length bytes == length (question_variables q r)) && list_all (λ b. nat_lt b 2) bytes

-- an assignment to a network: then, no assignment; last, a clause that fails
abbrev pub reading_refusal : Question → ℕ → List ℕ → Option Refusal
reading_refusal q r bytes =
    or_else (clauses_refusal q r)
    (or_else (refuse_if (not (is_assignment q r bytes)) NoAssignment)
    (refuse_if (not (all_hold (bits_of_bytes bytes) (question_clauses q r))) ClauseFails))

-- the answer of an assignment to a network: the read-back
abbrev pub reading_answer : Question → ℕ → List ℕ → Result Network Refusal
reading_answer q r bytes = unless_refused (reading_refusal q r bytes) (network_of (read_bits q r (bits_of_bytes bytes)))

-- the bits of a network: for each variable in order, what it says of the network with r gates, padded
abbrev pub network_bits : Question → ℕ → Network → List Bool
network_bits q r network = map (meaning q.inputs r (padded r (net_of network))) (question_variables q r)

-- the bytes of bits
abbrev pub bytes_of_bits : List Bool → List ℕ
bytes_of_bits bits = map (λ b. cond b 1 0) bits

-- a network to an assignment: as examine; then, r above 7 or below the number of gates; last, a buffer shorter than the assignment
abbrev pub writing_refusal : Question → ℕ → Network → ℕ → Option Refusal
writing_refusal q r network room =
    or_else (examine_refusal q network)
    (or_else (refuse_if (nat_lt 7 r || nat_lt r network.count) GatesAboveReach)
    (refuse_if (nat_lt room (length (question_variables q r))) BufferTooShort))

-- the answer of a network to an assignment: the number of bytes
abbrev pub writing_answer : Question → ℕ → Network → ℕ → Result ℕ Refusal
writing_answer q r network room = unless_refused (writing_refusal q r network room) (length (question_variables q r))
