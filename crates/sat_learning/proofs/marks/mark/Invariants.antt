use Rattle.sat_laws.specs.Steps.{Marked}
use Rattle.sat_learning.proofs.marks.mark.Given as goal

-- the literals so far are marked
abbrev pub invariant-loop-place : goal.invariant-loop-place
invariant-loop-place l = Marked l.words l.values l.start l.place l.but l.initial.marks l.marks
