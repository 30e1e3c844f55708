use Rattle.std.proofs.Common.{take}
use Rattle.std.specs.Fmt.{HasWritten, IsPlainFormatter}
use Rattle.mig.specs.Text.{later_gates_text}
use Rattle.mig.proofs.text.write_later_gates.Given as goal

-- the gates up to here are written
abbrev pub invariant-loop-gate : goal.invariant-loop-gate
invariant-loop-gate g l =
    IsPlainFormatter l.initial.f → HasWritten g.W.Write.write_str_gives l.initial.f (later_gates_text (take l.gate-index l.gates)) l.f
