use Rattle.std.proofs.Common.{◌≡◌, suc, ◌-◌, ◌++◌, replicate}
use Rattle.mig.specs.Networks.{empty_gate}
use Rattle.cnf.specs.Meaning.{read_gates}
use Rattle.assignment_reader.specs.Told.{told_by}
use Rattle.assignment_reader.proofs.read_back.network_told.Given as goal

-- the gates so far, and empty places
abbrev pub invariant-loop-place : goal.invariant-loop-place
invariant-loop-place l =
    l.gates ≡ read_gates (told_by l.numbering l.bytes) (suc l.numbering.inputs) l.place ++ replicate (7 - l.place) empty_gate
