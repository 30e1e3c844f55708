-- What it means that no assignment satisfies the clauses of any number of gates up to a limit.
use Rattle.std.proofs.Common.{ℕ, ◌+◌, ◌<◌, map, arith}
use Rattle.mig.specs.declared.question.Question.{Question}
use Rattle.mig.specs.Questions.{Valid}
use Rattle.search.specs.Meaning.{NoneWithin}
use Rattle.cnf.specs.Numbers.{question_variables}
use Rattle.symmetry_laws.proofs.Exact.{network_satisfies}
use Rattle.symmetry_laws.proofs.Numbered.{exact_bits_hold}
use Rattle.clause_search.specs.Exact.{NoAssignment}

-- then no network of so many gates meets the question
pub none_within : (q : Question) (r : ℕ) → Valid q → ((k : ℕ) → k < r + 1 → NoAssignment q k) → NoneWithin q r
none_within q r valid none net meets few =
    let w = network_satisfies q r net valid.some_fan_out few meets in
    none w.0 (omega (arith, w.1)) (map w.2.0 (question_variables q w.0)) (exact_bits_hold q w.0 w.2.0 valid.some_fan_out w.2.1)
