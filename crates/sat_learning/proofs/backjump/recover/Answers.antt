use Rattle.std.proofs.Common.{arith}
use Rattle.sat_learning.proofs.backjump.recover.Goals as goal

pub returns : goal.returns
returns c =
    let p = c.infer-top.ensures.grown in
    record { backjumped = record { consistent = p.consistent; justified = λ F snd u. p.justified F snd (λ i h. u i (omega arith)) } }
