use Rattle.std.proofs.Common.{rules, ◌≡◌, ◌≤◌, List, ℕ, true, ap, ◌∙◌, subst, sym, arith}
use Rattle.mig.specs.declared.question.Question.{Question}
use Rattle.mig.specs.Networks.{Net, net_of, size}
use Rattle.mig.specs.Questions.{Meets}
use Rattle.mig_laws.proofs.Places.{net_of-network_of}
use Rattle.cnf.specs.Meaning.{read_net}
use Rattle.cnf.specs.Numbers.{number, bit_of, question_clauses, all_hold, read_bits}
use Rattle.cnf.specs.Rules.{bits_of_bytes}
use Rattle.cnf_laws.proofs.Numbered.{reads_bits}
use Rattle.clauses.specs.declared.numbering.Numbering.{Numbering}
use Rattle.assignment_reader.specs.Told.{told_by}
use Rattle.assignment_reader.proofs.read_back.read_assignment.Goals as goal

-- what bytes tell by the numbers of a numbering of the question
of_the_question : (e : Numbering) (q : Question) (r : ℕ) (bytes : List ℕ)
    → (e.inputs ≡ q.inputs) × (e.gates ≡ r) × (e.depth ≡ q.limits.depth) × (e.fan_out ≡ q.limits.fan_out)
    → read_net e.inputs e.gates (told_by e bytes) ≡ read_bits q r (bits_of_bytes bytes)
of_the_question e q r bytes h =
    let f : ℕ → ℕ → ℕ → ℕ → Net = λ n d o k. read_net n k (λ v. bit_of (bits_of_bytes bytes) (number n d o k v)) in
    ap (λ n. f n e.depth e.fan_out e.gates) h.0
    ∙ ap (λ k. f q.inputs e.depth e.fan_out k) h.1
    ∙ ap (λ d. f q.inputs d e.fan_out r) h.2
    ∙ ap (λ o. f q.inputs q.limits.depth o r) h.3

pub returns-clause-has_r_gates_and_meets_the_question : goal.returns-clause-has_r_gates_and_meets_the_question
returns-clause-has_r_gates_and_meets_the_question c =
    let q = c.args.question.now in
    let r = c.args.gates in
    let bits = bits_of_bytes c.args.assignment.now in
    let e = c.in_ok-numbering.numbering in
    let h = c.in_ok-numbering.ensures.of_the_question in
    let some : 1 ≤ q.limits.fan_out = omega (arith, e.some_fan_out, h.3) in
    let hold : all_hold bits (question_clauses q r) ≡ true = search rules in
    let w = reads_bits q r bits some hold in
    let same : net_of c.network_told.result ≡ read_bits q r bits =
    ap net_of c.network_told.ensures ∙ net_of-network_of (read_net e.inputs e.gates (told_by e c.args.assignment.now))
    ∙ of_the_question e q r c.args.assignment.now h in
    (ap (λ (net : Net). size net) same ∙ w.0, subst (λ net. Meets q net) (sym same) w.1)
