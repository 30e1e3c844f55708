use Rattle.std.proofs.Common.{length}
use Rattle.checks.proofs.+gates_ordered.Given as goal

abbrev pub decreases-gates_ordered : goal.decreases-gates_ordered
decreases-gates_ordered l = length l.gates.now
