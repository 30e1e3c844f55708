-- The clauses of a question and exactly r gates by number: the numbers of their variables, and what satisfies them.
use Rattle.std.proofs.Common.{◌≡◌, ℕ, ◌≤◌, Bool, true, List, map, All, refl}
use Rattle.std.specs.List.{Contains}
use Rattle.std.proofs.lemmas.List.Elements.{All-weaker}
use Rattle.mig.specs.declared.question.Question.{Question}
use Rattle.cnf.specs.Variables.{NamedLiteral}
use Rattle.cnf.specs.Meaning.{Assignment, Satisfies}
use Rattle.cnf.specs.Numbers.{numbered, question_variables, question_number, all_hold, told}
use Rattle.cnf_laws.proofs.Listed.{variable_of}
use Rattle.cnf_laws.proofs.Numbered.{Tells, NamesVariable, decides_clauses, told_again, name_by_number}
use Rattle.symmetry_laws.specs.Symmetry.{symmetry_clauses, exact_clauses, numbered_exact_clauses}
use Rattle.symmetry_laws.proofs.Listed.{symmetry_variables_listed, exact_variables_listed}

-- the bits of an assignment that satisfies the clauses satisfy them by number
pub exact_bits_hold : (q : Question) (r : ℕ) (s : Assignment) → 1 ≤ q.limits.fan_out → Satisfies s (exact_clauses q r)
    → all_hold (map s (question_variables q r)) (numbered_exact_clauses q r) ≡ true
exact_bits_hold q r s some h =
    let g = question_number q r in
    let bits = map s (question_variables q r) in
    let listed = λ (x : NamedLiteral). Contains (question_variables q r) (variable_of x) in
    (decides_clauses g bits s (exact_clauses q r)
    (All-weaker (All listed) (All (Tells g bits s)) (All-weaker listed (Tells g bits s) (λ x. told_again q r s (variable_of x))) (exact_clauses q r)
    (exact_variables_listed q r some))).1 h

-- bits that satisfy the clauses by number satisfy them as they tell
pub exact_bits_told : (q : Question) (r : ℕ) (bits : List Bool) → all_hold bits (numbered_exact_clauses q r) ≡ true
    → Satisfies (told q r bits) (exact_clauses q r)
exact_bits_told q r bits = (decides_clauses (question_number q r) bits (told q r bits) (exact_clauses q r) (λ i c l k x u. refl)).0

-- each variable of the symmetry clauses by number is one of those that are numbered
pub symmetry_variables_numbered : (q : Question) (r : ℕ)
    → All (All (NamesVariable q r)) (numbered (question_number q r) (symmetry_clauses q.inputs q.table r))
symmetry_variables_numbered q r =
    name_by_number q r (symmetry_clauses q.inputs q.table r) (symmetry_variables_listed q.inputs q.table q.limits.depth q.limits.fan_out r)

-- and so is each variable of the clauses of a question and exactly r gates
pub exact_variables_numbered : (q : Question) (r : ℕ) → 1 ≤ q.limits.fan_out
    → All (All (NamesVariable q r)) (numbered_exact_clauses q r)
exact_variables_numbered q r some = name_by_number q r (exact_clauses q r) (exact_variables_listed q r some)
