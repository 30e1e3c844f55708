-- Networks within limits.
use Rattle.std.specs.Prelude.{ℕ, ◌-◌, ◌≤◌}
use Rattle.mig.specs.declared.network.Network.{Network}
use Rattle.mig.specs.declared.question.Limits.{Limits}
use Rattle.mig.specs.Networks.{net_of, Formed}
use Rattle.mig.specs.Questions.{Within}

-- up to four inputs and seven gates, well-formed, and within the limits
abbrev pub InLimits : ℕ → Limits → Network → Type 0
InLimits n limits network = (n ≤ 4) × (network.count ≤ 7) × Formed n (net_of network) × Within n limits (net_of network)

-- the limits with a depth limit lower by one
abbrev pub one_lower : Limits → Limits
one_lower limits = record { depth = limits.depth - 1; fan_out = limits.fan_out }
