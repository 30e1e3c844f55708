use Rattle.std.proofs.Common.{◌≡◌, ◌++◌, take}
use Rattle.std.specs.List.{flat_map}
use Rattle.records.specs.Records.{gate_codes}
use Rattle.records.proofs.writing.encode.Given as goal

-- the codes of the gates so far stand behind what stood
abbrev pub invariant-loop-gate : goal.invariant-loop-gate
invariant-loop-gate l = l.written.items ≡ l.initial.written.items ++ flat_map gate_codes (take l.gate-index l.gate-items)
