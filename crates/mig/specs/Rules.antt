-- What the rules answer: which refusal, or which value.
use Rattle.std.specs.Prelude.{ℕ, zero, suc, ◌+◌, ◌^◌, Bool, true, cond, not, ◌&&◌, ◌||◌, List, [], ◌∷◌, Some, None, Ok, Err, Option, Result, ◌==◌, nat_le, nat_lt}
use Rattle.std.specs.Bool.{beq}
use Rattle.mig.specs.declared.network.Gate.{Gate}
use Rattle.mig.specs.declared.network.Network.{Network}
use Rattle.mig.specs.declared.question.Question.{Question}
use Rattle.mig.specs.declared.refusal.Refusal.{Refusal}
use Rattle.mig.specs.declared.refusal.Refusal.TheVariants.{InputsAboveFour, TableBitBeyondRows, DepthLimitAboveSeven, FanOutLimitOutOfRange, MalformedNetwork, WrongTable, LevelAboveLimit, FanOutAboveLimit, BufferTooShort}
use Rattle.mig.specs.Networks.{Net, net_of, network_of, size, node, greatest_fan_out}
use Rattle.mig.specs.Tables.{bit_at}
use Rattle.mig.specs.Questions.{row_bit, level}
use Rattle.mig.specs.Normal.{normalised}

-- the refusal where the test holds
abbrev pub refuse_if : Bool → Refusal → Option Refusal
refuse_if t e = cond t (Some e) None

-- the first of two refusals
abbrev pub or_else : Option Refusal → Option Refusal → Option Refusal
or_else (Some e) later = Some e
or_else None later = later

-- the refusal if there is one, else the answer
abbrev pub unless_refused : {X : Type 0} → Option Refusal → X → Result X Refusal
unless_refused (Some e) x = Err e
unless_refused None x = Ok x

-- the refusal of an answer, if it is one
abbrev pub refused_by : {X : Type 0} → Result X Refusal → Option Refusal
refused_by (Ok x) = None
refused_by (Err e) = Some e

-- more than four inputs
abbrev pub inputs_refusal : ℕ → Option Refusal
inputs_refusal n = refuse_if (nat_lt 4 n) InputsAboveFour

-- what a call with a number of inputs and a table is refused for, in this order
abbrev pub table_refusal : ℕ → ℕ → Option Refusal
table_refusal n table = or_else (inputs_refusal n) (refuse_if (nat_le (2 ^ (2 ^ n)) table) TableBitBeyondRows)

-- what any question is refused for, in this order
abbrev pub question_refusal : Question → Option Refusal
question_refusal q =
    or_else (inputs_refusal q.inputs)
    (or_else (refuse_if (nat_le (2 ^ (2 ^ q.inputs)) q.table) TableBitBeyondRows)
    (or_else (refuse_if (nat_lt 7 q.limits.depth) DepthLimitAboveSeven)
    (refuse_if (q.limits.fan_out == 0 || nat_lt 19 q.limits.fan_out) FanOutLimitOutOfRange)))

-- each fan-in of a gate names a node below m
abbrev pub is_below : ℕ → Gate → Bool
is_below m g = nat_lt (node g.first) m && (nat_lt (node g.second) m && nat_lt (node g.third) m)

-- each gate names earlier nodes only, where m nodes stand before the first
unfoldable pub is_ordered : ℕ → List Gate → Bool
is_ordered m [] = true
is_ordered m (g ∷ gs) = is_below m g && is_ordered (m + 1) gs

-- a well-formed network over n inputs
abbrev pub is_formed : ℕ → Net → Bool
is_formed n net = is_ordered (n + 1) net.gates && nat_lt (node net.output) (n + 1 + size net)

-- a value of more than seven gates, or one that stands for no well-formed network over n inputs
abbrev pub network_refusal : ℕ → Network → Option Refusal
network_refusal n network = refuse_if (not (nat_le network.count 7 && is_formed n (net_of network))) MalformedNetwork

-- the test holds of each number below k
unfoldable pub all_below : ℕ → (ℕ → Bool) → Bool
all_below zero p = true
all_below (suc k) p = p k && all_below k p

-- the network computes the table in each of the 2^n rows
abbrev pub is_computed : ℕ → ℕ → Net → Bool
is_computed n table net = all_below (2 ^ n) (λ t. beq (row_bit n net t) (bit_at table t))

-- what a well-formed network is refused for at a question, in this order
abbrev pub unmet_refusal : Question → Net → Option Refusal
unmet_refusal q net =
    or_else (refuse_if (not (is_computed q.inputs q.table net)) WrongTable)
    (or_else (refuse_if (nat_lt q.limits.depth (level q.inputs net)) LevelAboveLimit)
    (refuse_if (nat_lt q.limits.fan_out (greatest_fan_out q.inputs net)) FanOutAboveLimit))

-- what `examine` refuses, in this order
abbrev pub examine_refusal : Question → Network → Option Refusal
examine_refusal q network =
    or_else (question_refusal q) (or_else (network_refusal q.inputs network) (unmet_refusal q (net_of network)))

-- the answer of `examine`: the level and the greatest fan-out of a gate
abbrev pub examined : Question → Network → Result (ℕ × ℕ) Refusal
examined q network =
    unless_refused (examine_refusal q network)
    (level q.inputs (net_of network), greatest_fan_out q.inputs (net_of network))

-- what a call with a number of inputs and a network is refused for, in this order
abbrev pub form_refusal : ℕ → Network → Option Refusal
form_refusal n network = or_else (inputs_refusal n) (network_refusal n network)

-- what a walk over a row of places is refused for, in this order: last, fewer places than nodes
abbrev pub walk_refusal : ℕ → Network → ℕ → Option Refusal
walk_refusal n network places =
    or_else (form_refusal n network) (refuse_if (nat_lt places (n + 1 + network.count)) BufferTooShort)

-- the answer of `normalise`
abbrev pub normalised_answer : ℕ → Network → Result Network Refusal
normalised_answer n network = unless_refused (form_refusal n network) (network_of (normalised n (net_of network)))
