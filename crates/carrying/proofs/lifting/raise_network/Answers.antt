use Rattle.std.proofs.Common.{rules, ◌≡◌, ℕ, ◌↔◌, ap}
use Rattle.mig.specs.declared.question.Limits.{Limits}
use Rattle.mig.specs.Networks.{net_of}
use Rattle.mig.specs.Questions.{question_of, Meets}
use Rattle.mig.specs.Rules.{form_refusal}
use Rattle.mig_laws.proofs.Refusals.{passes, form_passes}
use Rattle.class_laws.specs.Renaming.{SameGates}
use Rattle.class_laws.specs.Lifting.{lift_table, raise_net}
use Rattle.class_laws.proofs.Lifted.{raised_meets_exactly, raised_same_gates}
use Rattle.carrying.specs.Answers.{raised_answer}
use Rattle.carrying.proofs.Answered.{answered}
use Rattle.carrying.proofs.lifting.raise_network.Goals as goal

pub returns : goal.returns
returns c =
    let n = c.args.inputs in
    let network = c.args.network.now in
    let net = net_of network in
    let e : c.renamed.result ≡ raised_answer n network = search rules in
    record {
      answer = e;
      meets_the_lifted_question_exactly_when_it_meets_the_question =
          answered c.renamed.result (form_refusal n network) (raise_net 4 n net)
          (λ m. (table : ℕ) (limits : Limits) → Meets (question_of n table limits) net ↔ Meets (question_of 4 (lift_table 4 n table) limits) m) e
          (λ o table limits. raised_meets_exactly 4 n table limits net ((form_passes n network).0 (ap passes o)).0);
      keeps_gates_levels_and_fan_outs =
          answered c.renamed.result (form_refusal n network) (raise_net 4 n net) (SameGates n 4 net) e
          (λ o. let f = (form_passes n network).0 (ap passes o) in raised_same_gates 4 n net f.0 f.2);
    }
