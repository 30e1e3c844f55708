use Rattle.std.proofs.Common.{◌≡◌, ◌++◌, map, take, drop}
use Rattle.mig.specs.Normal.{map_gate, flip_naming}
use Rattle.normalise.proofs.normal_form.flip_uses.Given as goal

-- the codes of the gates up to here that name the node are flipped, and the gates behind them are as they were
abbrev pub invariant-loop-gate : goal.invariant-loop-gate
invariant-loop-gate l =
    l.gates ≡ map (map_gate (flip_naming l.node)) (take l.gate-index l.initial.gates) ++ drop l.gate-index l.initial.gates
