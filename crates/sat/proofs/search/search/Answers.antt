use Rattle.std.proofs.Common.{◌<◌, arith}
use Rattle.sat_laws.specs.Runs.{assignment_of}
use Rattle.sat_laws.proofs.Trails.{start_consistent, refuted_none, values_small}
use Rattle.sat_laws.proofs.Weights.{fuel_less}
use Rattle.sat_laws.proofs.Clauses.{hold_kept}
use Rattle.sat_laws.proofs.Runs.{run_start, run_grown, run_to, run_refuted, measure_less}
use Rattle.sat.proofs.search.search.Goals as goal

pub loop-l-init : goal.loop-l-init
loop-l-init c =
    run_grown (run_start c.requires.well_formed (start_consistent _ _ _ c.requires.fresh c.requires.room c.requires.room_for_kinds)) c.start-top.auto.values c.start-top.ensures.grown

pub returns-in-Model-clause-satisfiable : goal.returns-in-Model-clause-satisfiable
returns-in-Model-clause-satisfiable c = λ _. record {
  holds = hold_kept _ _ _ _ _ _ (assignment_of c.propagate-t.new.values) c.requires.well_formed c.loop-l.invariant.kept c.in-Model.ensures.finds.0;
  given = c.in-Model.ensures.finds.1;
  small = values_small _ _ _ _ c.propagate-t.ensures.grown.consistent;
}

pub loop-l-smaller-in-Decide : goal.loop-l-smaller-in-Decide
loop-l-smaller-in-Decide c =
    measure_less _ _ _ _ _ _ _ _ (c.propagate-t.ensures.grown.less _ (omega (arith, c.loop-l.auto.values)))
    (c.decide.ensures.decided.less _ (omega (arith, c.loop-l.auto.values, c.propagate-t.auto.values)))

pub loop-l-preserved-in-Decide : goal.loop-l-preserved-in-Decide
loop-l-preserved-in-Decide c =
    let p = run_grown c.loop-l.invariant c.propagate-t.auto.values c.propagate-t.ensures.grown in
    run_to p c.decide.auto.values c.decide.ensures.decided.consistent (c.decide.ensures.decided.justified _ p.justified)

pub returns-then-top-eq0-clause-unsatisfiable : goal.returns-then-top-eq0-clause-unsatisfiable
returns-then-top-eq0-clause-unsatisfiable c =
    let p = run_grown c.loop-l.invariant c.propagate-t.auto.values c.propagate-t.ensures.grown in
    let d = run_refuted p _ c.in-Conflict.ensures.finds.0 c.in-Conflict.ensures.finds.1 in
    λ _ m h. refuted_none _ _ _ (c.backtrack-top.ensures.backtracked.none_left _ d c.if-top-eq0.true) m h

pub loop-l-smaller-then-fuel-eq0 : goal.loop-l-smaller-then-fuel-eq0
loop-l-smaller-then-fuel-eq0 c =
    measure_less _ _ _ _ _ _ _ _ (c.propagate-t.ensures.grown.less _ (omega (arith, c.loop-l.auto.values)))
    (c.backtrack-top.ensures.backtracked.less (omega (arith, c.if-top-eq0.false)) _
    (omega (arith, c.propagate-t.ensures.grown.consistent.fits, c.loop-l.auto.values, c.propagate-t.auto.values)))

pub loop-l-preserved-then-fuel-eq0 : goal.loop-l-preserved-then-fuel-eq0
loop-l-preserved-then-fuel-eq0 c =
    let p = run_grown c.loop-l.invariant c.propagate-t.auto.values c.propagate-t.ensures.grown in
    let d = run_refuted p _ c.in-Conflict.ensures.finds.0 c.in-Conflict.ensures.finds.1 in
    let z : 0 < c.backtrack-top.result = omega (arith, c.if-top-eq0.false) in
    run_to p c.backtrack-top.auto.values (c.backtrack-top.ensures.backtracked.consistent z) (c.backtrack-top.ensures.backtracked.justified _ d p.justified z)

pub returns-in-None-clause-unsatisfiable : goal.returns-in-None-clause-unsatisfiable
returns-in-None-clause-unsatisfiable c =
    let p = run_grown c.loop-l.invariant c.propagate-t.auto.values c.propagate-t.ensures.grown in
    λ _ m h. c.in-None.ensures.resolved _ _ p m h

pub loop-l-smaller : goal.loop-l-smaller
loop-l-smaller c = fuel_less _ _ _ _ _ _ _ (omega arith)

pub loop-l-preserved : goal.loop-l-preserved
loop-l-preserved c = c.in-Some.ensures.resolved _ _ (run_grown c.loop-l.invariant c.propagate-t.auto.values c.propagate-t.ensures.grown)
