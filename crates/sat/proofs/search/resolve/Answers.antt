use Rattle.std.proofs.Common.{◌<◌, arith}
use Rattle.sat_laws.proofs.Trails.{refuted_none}
use Rattle.sat_laws.proofs.Runs.{run_to, run_refuted, run_learnt, run_backjumped, run_reduced}
use Rattle.sat.proofs.search.resolve.Goals as goal

pub returns-then-back-eq0 : goal.returns-then-back-eq0
returns-then-back-eq0 c = record {
  resolved = λ ws₀ ends₀ r m h. refuted_none _ _ _
      (c.backtrack-back.ensures.backtracked.none_left _ (run_refuted r _ c.requires.held c.requires.is_false) c.if-back-eq0.true) m h;
}

pub returns-in_default : goal.returns-in_default
returns-in_default c =
    let z : 0 < c.backtrack-back.result = omega (arith, c.if-back-eq0.false) in
    record {
      resolved = λ ws₀ ends₀ r. run_to (run_learnt r c.study-more.ensures.analyzed) c.backtrack-back.auto.values (c.backtrack-back.ensures.backtracked.consistent z)
          (c.backtrack-back.ensures.backtracked.justified _ (run_refuted r _ c.requires.held c.requires.is_false) r.justified z);
    }

pub returns : goal.returns
returns c = record {
  resolved = λ ws₀ ends₀ r.
      run_reduced (run_backjumped (run_learnt r c.study-more.ensures.analyzed) c.recover-grown.auto.values c.recover-grown.ensures.backjumped) c.reduce.ensures.reduced;
}
