use Rattle.sat_laws.specs.Steps.{Covered}
use Rattle.sat_learning.proofs.minimization.covered.Given as goal

-- the literals so far are covered
abbrev pub invariant-loop-place : goal.invariant-loop-place
invariant-loop-place l = Covered l.words l.values l.start l.place l.but l.marks
