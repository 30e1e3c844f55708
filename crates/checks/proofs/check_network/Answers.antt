use Rattle.std.proofs.Common.{◌≡◌, Ok, Err, Result, rules}
use Rattle.mig.specs.declared.refusal.Refusal.{Refusal}
use Rattle.mig.specs.declared.refusal.Refusal.TheVariants.{MalformedNetwork}
use Rattle.mig.specs.Rules.{form_refusal, unless_refused}
use Rattle.mig_laws.proofs.Refusals.{accepted, form_passes}
use Rattle.checks.proofs.check_network.Goals as goal

pub returns-then-network-gt7-clause-accepted_exactly_when_formed : goal.returns-then-network-gt7-clause-accepted_exactly_when_formed
returns-then-network-gt7-clause-accepted_exactly_when_formed c =
    let e : ◌≡◌ {A = Result (Unit {0}) Refusal} (Err MalformedNetwork) (unless_refused (form_refusal c.args.inputs c.args.network.now) tt) = search rules in
    accepted (Err MalformedNetwork) _ tt e (form_passes c.args.inputs c.args.network.now)

pub returns-clause-accepted_exactly_when_formed : goal.returns-clause-accepted_exactly_when_formed
returns-clause-accepted_exactly_when_formed c =
    let e : ◌≡◌ {A = Result (Unit {0}) Refusal} (Ok tt) (unless_refused (form_refusal c.args.inputs c.args.network.now) tt) = search rules in
    accepted (Ok tt) _ tt e (form_passes c.args.inputs c.args.network.now)
