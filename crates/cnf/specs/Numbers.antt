-- The numbers of the variables, the clauses by these numbers, and what satisfies them.
use Rattle.std.specs.Prelude.{◌≡◌, ℕ, zero, suc, ◌+◌, ◌-◌, ◌*◌, ◌^◌, ◌<◌, ◌≤◌, Bool, true, false, cond, not, List, [], ◌∷◌, ◌++◌, map, length, All, ◌==◌, slice_index_or}
use Rattle.std.specs.List.{list_all, list_any}
use Rattle.mig.specs.declared.question.Question.{Question}
use Rattle.mig.specs.Networks.{Net, size}
use Rattle.mig.specs.Questions.{Meets}
use Rattle.cnf.specs.declared.literal.Literal.{Literal}
use Rattle.cnf.specs.Variables.{Var, S, N, A, B, O, Q, H, K, NamedLiteral, pos, neg, NamedClause, uses_of, outnumber, variables}
use Rattle.cnf.specs.Clauses.{clauses_of}
use Rattle.cnf.specs.Meaning.{Assignment, read_net}

-- g a + g (a + 1) and so on, m numbers
unfoldable pub total : ℕ → ℕ → (ℕ → ℕ) → ℕ
total a zero g = 0
total a (suc m) g = total a m g + g (a + m)

-- how many variables K the gate j has
abbrev pub counters : ℕ → ℕ → ℕ → ℕ → ℕ
counters n f r j = cond (outnumber n f r j) (length (uses_of n r j) * f) 0

-- the number of the first N, and so on for the kinds after it
abbrev pub first_N : ℕ → ℕ → ℕ
first_N n r = 1 + total (suc n) r (λ i. 3 * i)

abbrev pub first_A : ℕ → ℕ → ℕ
first_A n r = first_N n r + 3 * r

abbrev pub first_B : ℕ → ℕ → ℕ
first_B n r = first_A n r + 3 * r * 2 ^ n

abbrev pub first_O : ℕ → ℕ → ℕ
first_O n r = first_B n r + r * 2 ^ n

abbrev pub first_H : ℕ → ℕ → ℕ
first_H n r = first_O n r + (suc n + r) + 1

abbrev pub first_K : ℕ → ℕ → ℕ → ℕ
first_K n d r = first_H n r + r * suc d

-- one more than the number of the last variable
abbrev pub behind_all : ℕ → ℕ → ℕ → ℕ → ℕ
behind_all n d f r = first_K n d r + total (suc n) r (counters n f r)

-- the number of a variable; that they run from 1 in the order of `variables` is the theorem `NumberedInOrder`
unfoldable pub number : ℕ → ℕ → ℕ → ℕ → Var → ℕ
number n d f r (S i c j) = 1 + total (suc n) (i - suc n) (λ x. 3 * x) + (c - 1) * i + j
number n d f r (N i c) = first_N n r + 3 * (i - suc n) + (c - 1)
number n d f r (A i c t) = first_A n r + (3 * (i - suc n) + (c - 1)) * 2 ^ n + t
number n d f r (B i t) = first_B n r + (i - suc n) * 2 ^ n + t
number n d f r (O j) = first_O n r + j
number n d f r Q = first_O n r + (suc n + r)
number n d f r (H i e) = first_H n r + (i - suc n) * suc d + e
number n d f r (K j k q) = first_K n d r + total (suc n) (j - suc n) (counters n f r) + (k - 1) * f + (q - 1)

-- a clause of literals by number
abbrev pub Clause : Type 0
Clause = List Literal

-- a literal by number
abbrev pub numbered_literal : (Var → ℕ) → NamedLiteral → Literal
numbered_literal g (pos v) = record { variable = g v; negated = false }
numbered_literal g (neg v) = record { variable = g v; negated = true }

-- clauses by number
unfoldable pub numbered : (Var → ℕ) → List NamedClause → List Clause
numbered g [] = []
numbered g (c ∷ cs) = map (numbered_literal g) c ∷ numbered g cs

-- the variables of a question and r gates
abbrev pub question_variables : Question → ℕ → List Var
question_variables q r = variables q.inputs q.limits.depth q.limits.fan_out r

-- the number of a variable of a question and r gates
abbrev pub question_number : Question → ℕ → Var → ℕ
question_number q r = number q.inputs q.limits.depth q.limits.fan_out r

-- the clauses of a question and r gates, by number
abbrev pub question_clauses : Question → ℕ → List Clause
question_clauses q r = numbered (question_number q r) (clauses_of q.inputs q.table q.limits.depth q.limits.fan_out r)

-- what an assignment says of the variable with a number, where its bits stand from the variable 1 on
abbrev pub bit_of : List Bool → ℕ → Bool
bit_of bits k = slice_index_or bits (k - 1) false

-- a literal holds
abbrev pub literal_holds : List Bool → Literal → Bool
literal_holds bits l = cond l.negated (not (bit_of bits l.variable)) (bit_of bits l.variable)

-- a clause holds: one of its literals does
abbrev pub clause_holds : List Bool → Clause → Bool
clause_holds bits c = list_any (literal_holds bits) c

-- each clause holds
abbrev pub all_hold : List Bool → List Clause → Bool
all_hold bits cs = list_all (clause_holds bits) cs

-- what bits say of the variables of a question and r gates
abbrev pub told : Question → ℕ → List Bool → Assignment
told q r bits v = bit_of bits (question_number q r v)

-- the read-back of bits
abbrev pub read_bits : Question → ℕ → List Bool → Net
read_bits q r bits = read_net q.inputs r (told q r bits)

-- a satisfying assignment: a bit for each variable, and each clause holds
pub record Model (q : Question) (r : ℕ) (bits : List Bool) : Type 0 where
  pub complete : length bits ≡ length (question_variables q r)
  pub satisfied : all_hold bits (question_clauses q r) ≡ true

-- the numbers of the variables run from x up to y, without y
unfoldable pub RunsFrom : (Var → ℕ) → List Var → ℕ → ℕ → Type 0
RunsFrom g [] x y = x ≡ y
RunsFrom g (v ∷ vs) x y = (g v ≡ x) × RunsFrom g vs (suc x) y

-- the variables have the numbers 1, 2, 3 and so on, in their order
abbrev pub NumberedInOrder : Question → ℕ → Type 0
NumberedInOrder q r = RunsFrom (question_number q r) (question_variables q r) 1 (1 + length (question_variables q r))

-- each literal of each clause is of a variable of the question and r gates: its number is one of these
abbrev pub LiteralsNameVariables : Question → ℕ → Type 0
LiteralsNameVariables q r =
    All (All (λ (l : Literal). (1 ≤ l.variable) × (l.variable ≤ length (question_variables q r)))) (question_clauses q r)

-- the clauses have a satisfying assignment exactly when a network of at most r gates meets the question
abbrev pub SatisfiableExactlyWhenMet : Question → ℕ → Type 0
SatisfiableExactlyWhenMet q r =
    (((bits : List Bool) × Model q r bits) → ((net : Net) × (size net ≤ r) × Meets q net))
    × (((net : Net) × (size net ≤ r) × Meets q net) → ((bits : List Bool) × Model q r bits))
