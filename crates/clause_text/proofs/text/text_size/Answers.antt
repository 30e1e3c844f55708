use Rattle.std.proofs.Common.{ℕ, ◌+◌, length, ap₂, ◌∙◌, sym, arith, length-append}
use Rattle.mig_laws.proofs.Refusals.{none_from_ok, value_from_ok}
use Rattle.cnf.specs.Numbers.{question_variables, question_clauses}
use Rattle.cnf.specs.Text.{clauses_text, head_text}
use Rattle.cnf.specs.Rules.{clauses_refusal}
use Rattle.clause_text.proofs.Texts.{counted}
use Rattle.clause_text.proofs.text.text_size.Goals as goal

pub overflow_add-bytes : goal.overflow_add-bytes
overflow_add-bytes c =
    let taken = c.in_ok-generate.ensures.takes_the_clauses_in_order in
    let none = none_from_ok (clauses_refusal c.args.question.now c.args.gates) _ _ c.in_ok-variables.ensures in
    let known = counted c.args.question.now c.args.gates c.generate.new.sink.clauses c.generate.new.sink.bytes none taken.0 taken.1 in
    omega (arith, c.head_length.ensures.bound, known.few)

pub returns : goal.returns
returns c =
    let q = c.args.question.now in
    let r = c.args.gates in
    let taken = c.in_ok-generate.ensures.takes_the_clauses_in_order in
    let none = none_from_ok (clauses_refusal q r) _ _ c.in_ok-variables.ensures in
    let known = counted q r c.generate.new.sink.clauses c.generate.new.sink.bytes none taken.0 taken.1 in
    let v = value_from_ok (clauses_refusal q r) _ _ c.in_ok-variables.ensures in
    let line = c.head_length.ensures.count ∙ ap₂ (λ (x y : ℕ). length (head_text x y)) v known.clauses in
    record {
      refused_by_the_rule = sym none;
      variables = v;
      clauses = known.clauses;
      bytes = ap₂ (λ (x y : ℕ). x + y) line known.bytes
          ∙ sym (length-append (head_text (length (question_variables q r)) (length (question_clauses q r))) (clauses_text (question_clauses q r)));
    }
