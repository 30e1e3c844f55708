use Rattle.std.proofs.Common.{◌≡◌, ◌+◌, ◌≤◌}
use Rattle.cnf.specs.Meaning.{pick}
use Rattle.cnf.specs.Numbers.{bit_of}
use Rattle.cnf.specs.Rules.{bits_of_bytes}
use Rattle.assignment_reader.proofs.bits.last_that_holds.Given as goal

-- the last that holds of those so far
abbrev pub invariant-loop-place : goal.invariant-loop-place
invariant-loop-place l = (l.last ≡ pick l.place (λ j. bit_of (bits_of_bytes l.bytes) (l.first + j))) × (l.last ≤ l.place)
