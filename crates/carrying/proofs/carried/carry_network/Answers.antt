use Rattle.std.proofs.Common.{rules, ◌≡◌, ℕ, ◌^◌, ◌<◌, ◌↔◌}
use Rattle.mig.specs.declared.question.Limits.{Limits}
use Rattle.mig.specs.Networks.{net_of}
use Rattle.mig.specs.Questions.{question_of, Meets}
use Rattle.mig.specs.Rules.{network_refusal}
use Rattle.mig_laws.proofs.Refusals.{none_means_formed}
use Rattle.class_laws.specs.Renaming.{SameGates}
use Rattle.class_laws.specs.Ways.{Way, carry_table, carry_net}
use Rattle.class_laws.proofs.Carried.{carried_meets_exactly, carried_same_gates}
use Rattle.classes.specs.Reach.{way_of}
use Rattle.carrying.specs.Answers.{carried_answer}
use Rattle.carrying.proofs.Answered.{answered}
use Rattle.carrying.proofs.carried.carry_network.Goals as goal

pub returns : goal.returns
returns c =
    let network = c.args.network.now in
    let net = net_of network in
    let w : Way = way_of c.args.way in
    let e : c.renamed.result ≡ carried_answer w network = search rules in
    record {
      answer = e;
      meets_the_carried_question_exactly_when_it_meets_the_question =
          answered c.renamed.result (network_refusal 4 network) (carry_net w net)
          (λ m. (table : ℕ) (limits : Limits) → table < 2 ^ 16 → Meets (question_of 4 table limits) net ↔ Meets (question_of 4 (carry_table w table) limits) m) e
          (λ o table limits l. carried_meets_exactly w table limits net (c.args.way.listed, c.args.way.inputs) l);
      keeps_gates_levels_and_fan_outs =
          answered c.renamed.result (network_refusal 4 network) (carry_net w net) (SameGates 4 4 net) e
          (λ o. carried_same_gates w net (c.args.way.listed, c.args.way.inputs) (none_means_formed 4 network o).1);
    }
