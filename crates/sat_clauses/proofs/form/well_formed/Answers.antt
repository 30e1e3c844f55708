use Rattle.std.proofs.Common.{refl, arith}
use Rattle.sat_laws.proofs.Clauses.{ends_rise}
use Rattle.sat_clauses.proofs.form.well_formed.Goals as goal

pub returns : goal.returns
returns c = record {
  decided = (
    λ _. record {
      table = omega arith;
      within = λ d h. omega (arith, ends_rise c.args.ends.now c.args.clauses (λ e g. c.loop-c.invariant e (omega arith)) d c.args.clauses h (omega arith));
      small = λ j h. c.loop-place.invariant j (omega arith);
      rising = ends_rise c.args.ends.now c.args.clauses (λ e g. c.loop-c.invariant e (omega arith));
    },
    λ _. refl,
  );
}
