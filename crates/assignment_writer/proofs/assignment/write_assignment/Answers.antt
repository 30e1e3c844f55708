use Rattle.std.proofs.Common.{◌≡◌, ℕ, ◌≤◌, true, length, None, refl, rules, arith, length-take}
use Rattle.mig.specs.Networks.{net_of, size, greatest_fan_out}
use Rattle.mig.specs.Questions.{Valid, Meets, level}
use Rattle.mig.specs.Rules.{examine_refusal}
use Rattle.mig_laws.proofs.Refusals.{none_from_ok, value_from_ok}
use Rattle.cnf.specs.Numbers.{question_variables}
use Rattle.cnf.specs.Rules.{clauses_refusal, writing_refusal}
use Rattle.cnf.specs.Meaning.{padded}
use Rattle.cnf_laws.proofs.Padded.{size_padded, formed_padded}
use Rattle.cnf_laws.proofs.Numbered.{writes_bits}
use Rattle.cnf_laws.proofs.BitsReadBack.{bits_read_back}
use Rattle.assignment_writer.specs.Said.{IsFormed}
use Rattle.assignment_writer.proofs.Whole.{padded_formed, writing_not_refused, written_by_the_rule, through}
use Rattle.assignment_writer.proofs.assignment.write_assignment.Goals as goal
use Rattle.assignment_writer.proofs.assignment.write_assignment.Goals.{After-padded-network}

-- the network is accepted
accepted : (c : After-padded-network) → Valid c.args.question.now × (c.args.network.now.count ≤ 7) × Meets c.args.question.now (net_of c.args.network.now)
accepted c = c.in_ok-examine.ensures.accepted_exactly_when_met.0 (refl {a = true})

formed : (c : After-padded-network) → IsFormed c.args.question.now.inputs c.padded-network.result
formed c =
    let m = accepted c in
    padded_formed c.args.question.now c.args.gates c.args.network.now c.padded-network.result (omega arith) (omega arith)
    c.padded-network.ensures.number c.padded-network.ensures.behind_its_own m.0.inputs m.2.formed

-- the buffer is long enough
long : (c : After-padded-network) → length (question_variables c.args.question.now c.args.gates) ≤ length c.args.buffer.now
long c =
    let q = c.args.question.now in
    let r = c.args.gates in
    let count = value_from_ok (clauses_refusal q r) (length (question_variables q r)) _ c.in_ok-variable_count.ensures in
    omega arith

none : (c : After-padded-network) → writing_refusal c.args.question.now c.args.gates c.args.network.now (length c.args.buffer.now) ≡ None
none c =
    let q = c.args.question.now in
    let network = c.args.network.now in
    let pair : ℕ × ℕ = (level q.inputs (net_of network), greatest_fan_out q.inputs (net_of network)) in
    let examined = none_from_ok (examine_refusal q network) pair _ c.in_ok-examine.ensures.answer in
    writing_not_refused q c.args.gates network (length c.args.buffer.now) examined (omega arith) (omega arith) (long c)

pub put_network-requires : goal.put_network-requires
put_network-requires c = formed (goal.at.put_network-requires c).After-padded-network

pub returns : goal.returns
returns c =
    let q = c.args.question.now in
    let r = c.args.gates in
    let net = net_of c.args.network.now in
    let p = (goal.at.returns c).After-padded-network in
    let m = accepted p in
    let few : size net ≤ r = omega (arith, length-take c.args.network.now.count c.args.network.now.gates) in
    let w = written_by_the_rule q r c.args.network.now c.padded-network.result _ c.put_network.new.self c.padded-network.ensures.number
    c.padded-network.ensures.behind_its_own (formed p) refl (none p) (long p) c.put_network.ensures in
    record {
      answer = w.0;
      every_variable_has_the_value_of_its_meaning = through c.put_network.new.self.buffer.now (search rules) w.1;
      satisfies_every_clause = writes_bits q r net m.0.some_fan_out few m.2;
      reads_back_as_the_padded_network =
          bits_read_back q r (padded r net) m.0.some_fan_out (size_padded r net few) (formed_padded q.inputs r net m.2.formed);
    }
