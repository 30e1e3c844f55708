-- Clauses as text.
use Rattle.std.specs.Prelude.{ℕ, cond, List, [], ◌∷◌, ◌++◌, length, codes}
use Rattle.std.specs.Fmt.{decimal}
use Rattle.std.specs.List.{flat_map}
use Rattle.mig.specs.declared.question.Question.{Question}
use Rattle.cnf.specs.declared.literal.Literal.{Literal}
use Rattle.cnf.specs.Numbers.{Clause, question_variables, question_clauses}

-- a literal: a minus before a complemented one, the number of its variable, and a space behind it
abbrev pub literal_text : Literal → List ℕ
literal_text l = cond l.negated (45 ∷ []) [] ++ (decimal l.variable ++ (32 ∷ []))

-- a clause: a line of its literals and a 0
abbrev pub clause_text : Clause → List ℕ
clause_text c = flat_map literal_text c ++ (48 ∷ 10 ∷ [])

-- the first line: how many variables and how many clauses there are
abbrev pub head_text : ℕ → ℕ → List ℕ
head_text variables clauses = codes "p cnf " ++ (decimal variables ++ (32 ∷ (decimal clauses ++ (10 ∷ []))))

-- clauses, a line each
abbrev pub clauses_text : List Clause → List ℕ
clauses_text cs = flat_map clause_text cs

-- the text of the clauses of a question and r gates
abbrev pub question_text : Question → ℕ → List ℕ
question_text q r =
    head_text (length (question_variables q r)) (length (question_clauses q r)) ++ clauses_text (question_clauses q r)
