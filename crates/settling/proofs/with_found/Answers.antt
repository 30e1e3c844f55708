use Rattle.std.proofs.Common.{◌≡◌, ◌≤◌, true, sym, ap, ◌∙◌, subst, arith}
use Rattle.std.proofs.lemmas.Bool.{false≢true}
use Rattle.mig.specs.Rules.{examine_refusal}
use Rattle.mig_laws.proofs.Refusals.{passes, examine_passes}
use Rattle.filing.specs.declared.key.Key.{Key}
use Rattle.filing.specs.Filing.{key_question}
use Rattle.entry.specs.Bounds.{LowerBound}
use Rattle.settling.proofs.Bounds.{raised_bound}
use Rattle.settling.proofs.with_found.Goals as goal

pub returns-in_err-key-clause-not_refused : goal.returns-in_err-key-clause-not_refused
returns-in_err-key-clause-not_refused c =
    let q = key_question c.args.entry.key in
    let place = c.args.found.now in
    let count : place.count ≤ 7 = omega (arith, ap (λ n. n.count) c.requires.holds.cleared, c.requires.holds.few) in
    let passed : passes (examine_refusal q place) ≡ true = (examine_passes q place).1 (c.requires.valid, count, c.requires.holds.meets) in
    absurd (false≢true (ap passes c.in_err-key.ensures.refused_as_examined ∙ passed))

pub invariant_of-result : goal.invariant_of-result
invariant_of-result c =
    let entry = c.args.entry in
    record {
      lower_bound = subst (λ (k : Key). LowerBound (key_question k) c.args.least) (sym c.in_ok-key.ensures.key)
          (raised_bound (key_question entry.key) entry.lower c.args.least entry.lower_bound c.requires.none_before);
      keepable = c.in_ok-key.field-0.keepable;
    }
