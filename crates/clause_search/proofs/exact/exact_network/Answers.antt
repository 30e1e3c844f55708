use Rattle.std.proofs.Common.{◌≡◌, ℕ, ◌<◌, ◌≤◌, true, length, take, get_or, cond, eqb, ◌+◌, is_some, sym, ap, ◌∙◌, subst, arith, length-take-le}
use Rattle.std.proofs.lemmas.Bool.{and_from, eq-eqb, false≢true}
use Rattle.mig_laws.proofs.Places.{net_of-network_of}
use Rattle.mig_laws.proofs.Refusals.{some_from_err, value_from_ok}
use Rattle.cnf.specs.Numbers.{question_variables}
use Rattle.cnf.specs.Rules.{bits_of_bytes, is_assignment}
use Rattle.mig.specs.Networks.{net_of, network_of}
use Rattle.sat.specs.Shapes.{values_place, assignment_in}
use Rattle.clause_search.specs.Exact.{CanBeAsked}
use Rattle.clause_search.proofs.Room.{few_named}
use Rattle.clause_search.proofs.Asked.{is_posed, none_satisfies, model_satisfies, question_satisfied, reading_passes, bytes_agree, bytes_are_bits}
use Rattle.clause_search.proofs.exact.exact_network.Goals as goal

pub bytes_of_values-bytes-requires-clause-few : goal.bytes_of_values-bytes-requires-clause-few
bytes_of_values-bytes-requires-clause-few c =
    omega (arith, few_named c.args.question.now c.args.gates (length c.args.words.now) c.requires.can_be_asked c.in_ok-shape.shape c.in_ok-shape.ensures.shape)

pub slice_bounds-bytes-end : goal.slice_bounds-bytes-end
slice_bounds-bytes-end c =
    omega (
      arith,
      few_named c.args.question.now c.args.gates (length c.args.words.now) c.requires.can_be_asked c.in_ok-shape.shape c.in_ok-shape.ensures.shape,
      c.bytes_of_values-bytes.ensures.as_many_bytes,
    )

pub slice_bounds-read_assignment-end : goal.slice_bounds-read_assignment-end
slice_bounds-read_assignment-end c =
    sym (length-take-le c.in_ok-shape.shape.variables c.bytes_of_values-bytes.result
    (omega (
      arith,
      few_named c.args.question.now c.args.gates (length c.args.words.now) c.requires.can_be_asked c.in_ok-shape.shape c.in_ok-shape.ensures.shape,
      c.bytes_of_values-bytes.ensures.as_many_bytes,
    )))

pub returns-in_err-read_assignment-in-Satisfiable-clause-not_refused : goal.returns-in_err-read_assignment-in-Satisfiable-clause-not_refused
returns-in_err-read_assignment-in-Satisfiable-clause-not_refused c =
    let q = c.args.question.now in
    let r = c.args.gates in
    let s = c.in_ok-shape.shape in
    let is = c.in_ok-shape.ensures.shape in
    let before = c.write_clauses.new.words in
    let after = c.solve.new.words in
    let can : CanBeAsked q r (length before) = subst (CanBeAsked q r) (sym c.in_ok-write_clauses.ensures.as_many_words) c.requires.can_be_asked in
    let bytes = c.bytes_of_values-bytes.result in
    let long : s.variables ≤ length bytes = omega (
      arith,
      few_named q r (length c.args.words.now) c.requires.can_be_asked s is,
      c.bytes_of_values-bytes.ensures.as_many_bytes,
    ) in
    let told : (v : ℕ) → v < s.variables → get_or bytes v 0 ≡ cond (eqb (get_or after (values_place s + v) 0) 2) 1 0 = λ v l.
    c.bytes_of_values-bytes.ensures.values v l ∙ ap (λ (p : ℕ). cond (eqb (get_or after (p + v) 0) 2) 1 0) c.values_place.ensures.place in
    let hold = question_satisfied q r (bits_of_bytes (take s.variables bytes))
    (model_satisfies q r before can s is c.in_ok-write_clauses.ensures.posed (assignment_in s after) c.in-Satisfiable.ensures.answered.1
    (bits_of_bytes (take s.variables bytes)) (bytes_agree after bytes (values_place s) s.variables long told)) in
    let many : length (take s.variables bytes) ≡ length (question_variables q r) = length-take-le s.variables bytes long ∙ is.variables in
    let whole : is_assignment q r (take s.variables bytes) ≡ true =
    and_from _ _ (eq-eqb _ _ many) (bytes_are_bits after bytes (values_place s) s.variables long told) in
    let none = reading_passes q r (take s.variables bytes) can.valid can.few whole hold in
    let some = some_from_err _ _ _ c.in_err-read_assignment-in-Satisfiable.ensures.answer in
    absurd (false≢true (ap is_some (sym none ∙ some)))

pub returns-in_ok-read_assignment-in-Satisfiable-clause-found_exactly : goal.returns-in_ok-read_assignment-in-Satisfiable-clause-found_exactly
returns-in_ok-read_assignment-in-Satisfiable-clause-found_exactly c =
    let found = c.in_ok-read_assignment-in-Satisfiable.ensures.has_r_gates_and_meets_the_question in
    let cleared = value_from_ok _ _ _ c.in_ok-read_assignment-in-Satisfiable.ensures.answer in
    (found.1, found.0, cleared ∙ ap network_of (sym (ap net_of cleared ∙ net_of-network_of _)))

pub returns-in-Unsatisfiable-clause-found_exactly : goal.returns-in-Unsatisfiable-clause-found_exactly
returns-in-Unsatisfiable-clause-found_exactly c =
    let w = c.write_clauses.new.words in
    let can : CanBeAsked c.args.question.now c.args.gates (length w) =
    subst (CanBeAsked c.args.question.now c.args.gates) (sym c.in_ok-write_clauses.ensures.as_many_words) c.requires.can_be_asked in
    none_satisfies c.args.question.now c.args.gates w can c.in_ok-shape.shape c.in_ok-shape.ensures.shape c.in_ok-write_clauses.ensures.posed c.in-Unsatisfiable.ensures.answered.1

pub returns-in-Refused-clause-not_refused : goal.returns-in-Refused-clause-not_refused
returns-in-Refused-clause-not_refused c =
    let w = c.write_clauses.new.words in
    let can : CanBeAsked c.args.question.now c.args.gates (length w) =
    subst (CanBeAsked c.args.question.now c.args.gates) (sym c.in_ok-write_clauses.ensures.as_many_words) c.requires.can_be_asked in
    absurd (c.in-Refused.ensures.answered (is_posed c.args.question.now c.args.gates w can c.in_ok-shape.shape c.in_ok-shape.ensures.shape c.in_ok-write_clauses.ensures.posed))
