use Rattle.std.proofs.Common.{◌≡◌, ◌++◌, ◌-◌, length, take}
use Rattle.records.specs.Records.{gates_from}
use Rattle.records.proofs.reading.gates_from.Given as goal

-- the places so far, and the gates of the codes that are left, are those of all codes
abbrev pub invariant-loop-place : goal.invariant-loop-place
invariant-loop-place l = record {
  so_far : take l.place-index l.place-items ++ gates_from (7 - l.place-index) l.rest ≡ gates_from 7 l.codes;
  seven : length l.place-items ≡ 7;
}
