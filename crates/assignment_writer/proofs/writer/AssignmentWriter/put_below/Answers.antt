use Rattle.std.proofs.Common.{zero-add}
use Rattle.assignment_writer.proofs.Writing.{wrote_none, wrote_next}
use Rattle.assignment_writer.proofs.writer.AssignmentWriter.put_below.Goals as goal

pub loop-j-init : goal.loop-j-init
loop-j-init c = wrote_none c.args.self.now 0 _

pub loop-j-preserved : goal.loop-j-preserved
loop-j-preserved c = wrote_next 0 c.loop-j.j c.loop-j.j _ (zero-add c.loop-j.j) c.loop-j.invariant (rw (← c.from.ensures) c.put.ensures)
