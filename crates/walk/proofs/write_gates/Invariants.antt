use Rattle.std.proofs.Common.{◌≡◌, ◌+◌, ◌++◌, take, drop}
use Rattle.mig.specs.Networks.{walk}
use Rattle.walk.proofs.write_gates.Given as goal

-- the first i gates have their values, and what is behind them is as it was
abbrev pub invariant-loop-i : goal.invariant-loop-i
invariant-loop-i g l =
    l.values
    ≡ walk g.V.ValueKind.kind (take l.before l.initial.values) (take l.i l.gates)
    ++ drop (l.before + l.i) l.initial.values
