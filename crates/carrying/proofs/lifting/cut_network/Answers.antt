use Rattle.std.proofs.Common.{rules, ◌≡◌, ℕ, ◌≤◌, ap, ◌∙◌}
use Rattle.mig.specs.declared.question.Limits.{Limits}
use Rattle.mig.specs.Networks.{Net, net_of, network_of}
use Rattle.mig.specs.Questions.{question_of, Meets}
use Rattle.mig.specs.Rules.{unless_refused, network_refusal}
use Rattle.mig_laws.proofs.Refusals.{none_means_formed}
use Rattle.class_laws.specs.Renaming.{SameGates}
use Rattle.class_laws.specs.Lifting.{lift_table, raise_net, cut_net}
use Rattle.class_laws.proofs.Lifted.{cutting, cut_same_gates, raise_cut}
use Rattle.carrying.proofs.Answered.{answered}
use Rattle.carrying.proofs.lifting.cut_network.Goals as goal

pub returns : goal.returns
returns c =
    let n = c.args.inputs in
    let network = c.args.network.now in
    let net = net_of network in
    let few : n ≤ 4 = search rules in
    let e : c.renamed.result ≡ unless_refused (network_refusal 4 network) (network_of (cut_net 4 n net)) = search rules in
    record {
      answer = search rules;
      meets_the_question_if_it_meets_the_lifted_one =
          answered c.renamed.result (network_refusal 4 network) (cut_net 4 n net)
          (λ m. (table : ℕ) (limits : Limits) → Meets (question_of 4 (lift_table 4 n table) limits) net → Meets (question_of n table limits) m) e
          (λ o table limits h. cutting 4 n table limits net few h);
      keeps_gates_levels_and_fan_outs =
          answered c.renamed.result (network_refusal 4 network) (cut_net 4 n net) (SameGates 4 n net) e
          (λ o. cut_same_gates 4 n net few (none_means_formed 4 network o).1);
      raised_networks_come_back =
          answered c.renamed.result (network_refusal 4 network) (cut_net 4 n net) (λ m. (lower : Net) → net ≡ raise_net 4 n lower → m ≡ lower) e
          (λ o lower h. ap (cut_net 4 n) h ∙ raise_cut 4 n few lower);
    }
