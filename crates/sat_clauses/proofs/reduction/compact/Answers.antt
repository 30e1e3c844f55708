use Rattle.std.proofs.Common.{◌+◌, refl, arith}
use Rattle.sat_laws.proofs.Reduction.{reduce_keep}
use Rattle.sat_clauses.proofs.reduction.compact.Goals as goal

pub loop-c-preserved : goal.loop-c-preserved
loop-c-preserved c =
    let p = c.loop-c.invariant in
    let sh = c.requires.well_formed in
    let place = p.place in
    let on = p.later (c.loop-c.c + 1) (omega arith) in
    let up = sh.rising c.loop-c.c (c.loop-c.c + 1) (omega arith) (omega arith) in
    let in1 = sh.within (c.loop-c.c + 1) (omega arith) in
    reduce_keep _ _ _ _ _ _ _ _ c.loop-c.c _ sh p (omega arith) _ _ _ refl refl c.move_down.auto.words
    (omega (arith, p.behind, sh.table)) c.move_down.ensures.moved (omega (arith, p.under))
