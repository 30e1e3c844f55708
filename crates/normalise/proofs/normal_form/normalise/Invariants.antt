use Rattle.std.proofs.Common.{◌≡◌}
use Rattle.mig.specs.Networks.{net_of, network_of}
use Rattle.mig.specs.Normal.{first_normalised}
use Rattle.normalise.proofs.normal_form.normalise.Given as goal

-- the first i gates are normalised
abbrev pub invariant-loop-i : goal.invariant-loop-i
invariant-loop-i l = l.normal ≡ network_of (first_normalised l.inputs l.i (net_of l.network))
