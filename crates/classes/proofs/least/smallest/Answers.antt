use Rattle.std.proofs.Common.{arith}
use Rattle.classes.proofs.least.smallest.Goals as goal

pub returns-clause-least : goal.returns-clause-least
returns-clause-least c = λ w h. c.loop-order.invariant.least w.order w.mask w.flipped (omega arith) h.1
