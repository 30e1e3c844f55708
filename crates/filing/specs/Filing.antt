-- The class that a question is filed under, and how networks are carried there and back.
use Rattle.std.specs.Prelude.{◌≡◌, ℕ, ◌≤◌}
use Rattle.std.specs.declared.cmp.Ordering.{Ordering}
use Rattle.std.specs.Ordering.{nat_cmp, ordering_then}
use Rattle.mig.specs.declared.network.Network.{Network}
use Rattle.mig.specs.declared.question.Question.{Question}
use Rattle.mig.specs.declared.question.Limits.{Limits}
use Rattle.mig.specs.Networks.{Net, net_of, network_of}
use Rattle.mig.specs.Normal.{Normal, normalised}
use Rattle.mig.specs.Questions.{question_of, Meets}
use Rattle.class_laws.specs.Lifting.{lift_table, raise_net, cut_net}
use Rattle.class_laws.specs.Ways.{Way, IsWay, inverse, carry_table, carry_net, representative_of}
use Rattle.filing.specs.declared.key.Key.{Key}

-- the question's table over four inputs
abbrev pub lifted_table : Question → ℕ
lifted_table q = lift_table 4 q.inputs q.table

-- the representative of the question's table
abbrev pub class_of : Question → ℕ
class_of q = representative_of (lifted_table q)

-- the key of a question: what it is filed under
abbrev pub key_of : Question → Key
key_of q = record { table = class_of q; limits = q.limits }

-- the question of a key: its table over four inputs, under its limits
abbrev pub key_question : Key → Question
key_question k = question_of 4 k.table k.limits

-- the order of keys: by the table, then by the depth limit, then by the fan-out limit
abbrev pub limits_cmp : Limits → Limits → Ordering
limits_cmp a b = ordering_then (nat_cmp a.depth b.depth) (nat_cmp a.fan_out b.fan_out)

abbrev pub key_cmp : Key → Key → Ordering
key_cmp a b = ordering_then (nat_cmp a.table b.table) (limits_cmp a.limits b.limits)

-- the question of the class: the representative over four inputs, under the same limits
abbrev pub class_question : Question → Question
class_question q = key_question (key_of q)

-- a network as it is kept under a key: it meets the key's question and is normal, and the places behind its gates are 0
pub record Keepable (k : Key) (network : Network) : Type 0 where
  pub meets : Meets (key_question k) (net_of network)
  pub normal : Normal (net_of network)
  pub few : network.count ≤ 7
  pub cleared : network ≡ network_of (net_of network)

-- a way from the question's table to its representative; which one is left open: the way of carrying
pub record LeadsToClass (q : Question) (w : Way) : Type 0 where
  pub is_way : IsWay w
  pub reaches : carry_table w (lifted_table q) ≡ class_of q

-- a network of the question as it is kept: raised to four inputs, carried by the way, normalised
abbrev pub kept_by : Way → Question → Net → Net
kept_by w q net = normalised 4 (carry_net w (raise_net 4 q.inputs net))

-- a kept network as it is given out: carried back, cut to the question's inputs, normalised
abbrev pub given_by : Way → Question → Net → Net
given_by w q net = normalised q.inputs (cut_net 4 q.inputs (carry_net (inverse w) net))

-- the place holds the network of the question as it is kept, carried by some way
abbrev pub CarriedIn : Question → Net → Network → Type 0
CarriedIn q net place = (w : Way) × LeadsToClass q w × (place ≡ network_of (kept_by w q net))

-- the place holds the kept network as it is given out, carried by some way
abbrev pub CarriedOut : Question → Net → Network → Type 0
CarriedOut q net place = (w : Way) × LeadsToClass q w × (place ≡ network_of (given_by w q net))
