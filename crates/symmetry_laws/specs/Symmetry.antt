-- The symmetry clauses of n inputs, a table and r gates, in eight groups, in their order. What the variables say of a canonical
-- network with its neighbours and its inputs in order satisfies them. Without gates there are none.
use Rattle.std.specs.Prelude.{ℕ, suc, ◌+◌, ◌-◌, cond, List, [], ◌∷◌, ◌++◌, ◌==◌}
use Rattle.mig.specs.declared.question.Question.{Question}
use Rattle.cnf.specs.Variables.{S, N, B, O, pos, neg, NamedClause, each, each_gate}
use Rattle.cnf.specs.Clauses.{clauses_of}
use Rattle.cnf.specs.Numbers.{Clause, numbered, question_number}
use Rattle.symmetry_laws.specs.Inputs.{symmetric_in}

-- not two of the three fan-ins of gate i are complemented
abbrev pub no_two_complements : ℕ → List NamedClause
no_two_complements i =
    (neg (N i 1) ∷ neg (N i 2) ∷ []) ∷ (neg (N i 1) ∷ neg (N i 3) ∷ []) ∷ (neg (N i 2) ∷ neg (N i 3) ∷ []) ∷ []

-- not the node j before the node k, which is not behind it, as the first two fan-ins of gate i, nor as the last two; but both
-- of the first two may be the constant, if the second is complemented
abbrev pub no_fall : ℕ → ℕ → ℕ → List NamedClause
no_fall i j k =
    (neg (S i 1 j) ∷ neg (S i 2 k) ∷ cond (j == 0) (pos (N i 2) ∷ []) []) ∷ (neg (S i 2 j) ∷ neg (S i 3 k) ∷ []) ∷ []

-- gate i names gate j
abbrev pub naming : ℕ → ℕ → NamedClause
naming j i = pos (S i 1 j) ∷ pos (S i 2 j) ∷ pos (S i 3 j) ∷ []

-- group a: at most one fan-in is complemented
abbrev pub complements_once : ℕ → ℕ → List NamedClause
complements_once n r = each_gate n r no_two_complements

-- group b: the nodes of the fan-ins rise, or the first two are the constant and its complement
abbrev pub fan_ins_rise : ℕ → ℕ → List NamedClause
fan_ins_rise n r = each_gate n r (λ i. each 0 i (λ j. each 0 (suc j) (no_fall i j)))

-- group c: a gate whose first two fan-ins are the constant copies a gate
abbrev pub buffers_copy_gates : ℕ → ℕ → List NamedClause
buffers_copy_gates n r = each_gate n r (λ i. each 0 (suc n) (λ j. (neg (S i 1 0) ∷ neg (S i 2 0) ∷ neg (S i 3 j) ∷ []) ∷ []))

-- group d: the output is the last gate, if there are gates
abbrev pub output_last : ℕ → ℕ → List NamedClause
output_last n r = cond (r == 0) [] ((pos (O (n + r)) ∷ []) ∷ [])

-- group e: each gate but the last is named by a later one
abbrev pub gates_named : ℕ → ℕ → List NamedClause
gates_named n r = each_gate n (r - 1) (λ j. each (suc j) (n + r - j) (naming j) ∷ [])

-- group f: in row 0, where each input is 0, each gate is 0
abbrev pub first_row_zero : ℕ → ℕ → List NamedClause
first_row_zero n r = each_gate n r (λ i. (neg (B i 0) ∷ []) ∷ [])

-- group g: the third fan-in of a gate is not behind that of the next gate, unless that is the gate itself
abbrev pub neighbours_ordered : ℕ → ℕ → List NamedClause
neighbours_ordered n r =
    each_gate n (r - 1) (λ i. each 0 i (λ j. each 0 j (λ k. (neg (S i 3 j) ∷ neg (S (suc i) 3 k) ∷ []) ∷ [])))

-- if fan-in c of gate i is the input b, gate i or a gate before it names the input a
abbrev pub named_up_to : ℕ → ℕ → ℕ → ℕ → ℕ → NamedClause
named_up_to n a b i c = neg (S i c (suc b)) ∷ each (suc n) (i - n) (naming (suc a))

-- no gate names the input b before one that names the input a
abbrev pub in_order : ℕ → ℕ → ℕ → ℕ → List NamedClause
in_order n a b r = each_gate n r (λ i. named_up_to n a b i 1 ∷ named_up_to n a b i 2 ∷ named_up_to n a b i 3 ∷ [])

-- group h: of two inputs, counted from 0, in which the table is symmetric, no gate names the later before one that names the earlier
abbrev pub inputs_ordered : ℕ → ℕ → ℕ → List NamedClause
inputs_ordered n f r = each 0 n (λ a. each (suc a) (n - suc a) (λ b. cond (symmetric_in n f a b) (in_order n a b r) []))

-- the symmetry clauses of n inputs, the table f and r gates
unfoldable pub symmetry_clauses : ℕ → ℕ → ℕ → List NamedClause
symmetry_clauses n f r =
    complements_once n r ++ (fan_ins_rise n r ++ (buffers_copy_gates n r ++ (output_last n r
    ++ (gates_named n r ++ (first_row_zero n r ++ (neighbours_ordered n r ++ inputs_ordered n f r))))))

-- the clauses of a question and exactly r gates: those of the question, then the symmetry clauses
abbrev pub exact_clauses : Question → ℕ → List NamedClause
exact_clauses q r = clauses_of q.inputs q.table q.limits.depth q.limits.fan_out r ++ symmetry_clauses q.inputs q.table r

-- these clauses by number
abbrev pub numbered_exact_clauses : Question → ℕ → List Clause
numbered_exact_clauses q r = numbered (question_number q r) (exact_clauses q r)
