use Rattle.std.proofs.Common.{◌≡◌, ◌+◌, length, take}
use Rattle.std.specs.List.{flat_map}
use Rattle.cnf.specs.Text.{literal_text}
use Rattle.clause_text.specs.Counting.{saturated}
use Rattle.clause_text.proofs.length.clause_length.Given as goal

-- the bytes of the end of the line, and of the literals so far
abbrev pub invariant-loop-literal : goal.invariant-loop-literal
invariant-loop-literal l = l.bytes ≡ saturated (2 + length (flat_map literal_text (take l.literal-index l.clause)))
