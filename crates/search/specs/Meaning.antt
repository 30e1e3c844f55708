-- What a search means.
use Rattle.std.specs.Prelude.{◌≡◌, ℕ, ◌+◌, ◌≤◌, min, Bool, true, false, Option, nat_lt}
use Rattle.mig.specs.declared.network.Network.{Network}
use Rattle.mig.specs.declared.question.Question.{Question}
use Rattle.mig.specs.declared.refusal.Refusal.{Refusal}
use Rattle.mig.specs.declared.refusal.Refusal.TheVariants.{GatesAboveReach, TooFewWorkWords}
use Rattle.mig.specs.Networks.{Net, net_of, network_of, size}
use Rattle.mig.specs.Questions.{Meets}
use Rattle.mig.specs.Rules.{or_else, refuse_if, question_refusal}

-- The reach of a search: the greatest number of gates that it can be asked for. Its need: how many work words it has to be
-- lent. Its count: how many questions it has taken.

-- where a count stops
abbrev pub count_stop : ℕ
count_stop = 4294967295

-- a count after k questions more, which stops at the greatest 32-bit number
abbrev pub raised : ℕ → ℕ → ℕ
raised count k = min (count + k) count_stop

-- what a search is refused for, in this order: the question, more gates than its reach, fewer work words than its need
abbrev pub ask_refusal : Question → ℕ → ℕ → ℕ → ℕ → Option Refusal
ask_refusal q r reach need words =
    or_else (question_refusal q) (or_else (refuse_if (nat_lt reach r) GatesAboveReach) (refuse_if (nat_lt words need) TooFewWorkWords))

-- no majority network of at most r gates meets the question
abbrev pub NoneWithin : Question → ℕ → Type 0
NoneWithin q r = (net : Net) → Meets q net → size net ≤ r → ⊥

-- the place holds a network of at most r gates that meets the question, and its rows behind the gates are 0;
-- which network is left open: the found network
pub record Holds (q : Question) (r : ℕ) (place : Network) : Type 0 where
  pub meets : Meets q (net_of place)
  pub few : size (net_of place) ≤ r
  pub cleared : place ≡ network_of (net_of place)

-- "found": the place holds such a network; "none": the place is as it was, and there is no such network
abbrev pub Outcome : Question → ℕ → Network → Network → Bool → Type 0
Outcome q r before after true = Holds q r after
Outcome q r before after false = (after ≡ before) × NoneWithin q r
