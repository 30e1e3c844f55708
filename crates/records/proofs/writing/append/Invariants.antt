use Rattle.std.proofs.Common.{◌≡◌, ◌++◌, take}
use Rattle.records.proofs.writing.append.Given as goal

abbrev pub invariant-loop-byte : goal.invariant-loop-byte
invariant-loop-byte l = l.written.items ≡ l.initial.written.items ++ take l.byte-index l.bytes
