use Rattle.std.proofs.Common.{◌≡◌, ◌/◌, ◌≤◌, ◌<◌, get_or}
use Rattle.sat_laws.specs.Formulas.{literal_at}
use Rattle.sat_laws.specs.Trails.{OthersFalse}
use Rattle.sat_propagation.proofs.clause_state.look.Given as goal

-- each literal so far is false, but for one that may be open
abbrev pub invariant-loop-place : goal.invariant-loop-place
invariant-loop-place l = record {
  high : l.open ≤ l.end;
  low : l.open < l.end → l.start ≤ l.open;
  others : OthersFalse l.values l.words l.start l.place l.open;
  free : l.open < l.end → get_or l.values (literal_at l.words l.open / 2) 0 ≡ 0;
}
