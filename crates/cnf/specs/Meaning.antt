-- What an assignment says of a network, and what a network says of the variables.
use Rattle.std.specs.Prelude.{◌≡◌, ℕ, zero, suc, ◌+◌, ◌-◌, ◌*◌, ◌≤◌, Bool, true, false, cond, not, ◌||◌, List, [], ◌∷◌, ◌++◌, take, replicate, ◌==◌, nat_le, nat_lt, slice_index_or}
use Rattle.mig.specs.declared.network.Gate.{Gate}
use Rattle.mig.specs.Networks.{Net, size, node, complemented, empty_gate, value_at, walk, bits, levels}
use Rattle.mig.specs.Questions.{row_start}
use Rattle.cnf.specs.Variables.{Var, S, N, A, B, O, Q, H, K, NamedLiteral, pos, neg, NamedClause, uses_of}

-- which variables hold
abbrev pub Assignment : Type 0
Assignment = Var → Bool

-- a literal holds
abbrev pub holds : Assignment → NamedLiteral → Bool
holds s (pos v) = s v
holds s (neg v) = not (s v)

-- one of the literals holds
abbrev pub some_holds : Assignment → NamedClause → Bool
some_holds s [] = false
some_holds s (l ∷ ls) = holds s l || some_holds s ls

-- the assignment satisfies each clause
unfoldable pub Satisfies : Assignment → List NamedClause → Type 0
Satisfies s [] = Unit {0}
Satisfies s (c ∷ cs) = (some_holds s c ≡ true) × Satisfies s cs

-- the greatest number below m that passes, or 0
unfoldable pub pick : ℕ → (ℕ → Bool) → ℕ
pick zero p = 0
pick (suc m) p = cond (p m) m (pick m p)

-- the code of a node, complemented or not
abbrev pub code : ℕ → Bool → ℕ
code j x = 2 * j + cond x 1 0

-- fan-in c of gate i as S and N tell it
abbrev pub read_code : Assignment → ℕ → ℕ → ℕ
read_code s i c = code (pick i (λ j. s (S i c j))) (s (N i c))

-- gate i as S and N tell it
abbrev pub read_gate : Assignment → ℕ → Gate
read_gate s i = record { first = read_code s i 1; second = read_code s i 2; third = read_code s i 3 }

-- r gates from the node i on
unfoldable pub read_gates : Assignment → ℕ → ℕ → List Gate
read_gates s i zero = []
read_gates s i (suc r) = read_gate s i ∷ read_gates s (suc i) r

-- the read-back: the network of r gates over n inputs that S, N, O and Q tell
abbrev pub read_net : ℕ → ℕ → Assignment → Net
read_net n r s = record { gates = read_gates s (suc n) r; output = code (pick (suc n + r) (λ j. s (O j))) (s Q) }

-- the network with gates on 0, 0, 0 behind its own, so that there are r
abbrev pub padded : ℕ → Net → Net
padded r net = record { gates = net.gates ++ replicate (r - size net) empty_gate; output = net.output }

-- the gate with the node i
abbrev pub gate_of_node : ℕ → Net → ℕ → Gate
gate_of_node n net i = slice_index_or net.gates (i - suc n) empty_gate

-- fan-in c of a gate, from 1 to 3
abbrev pub fan_in : ℕ → Gate → ℕ
fan_in c g = cond (c == 1) g.first (cond (c == 2) g.second g.third)

-- how many of the variables hold
unfoldable pub count : Assignment → List Var → ℕ
count s [] = 0
count s (v ∷ vs) = cond (s v) 1 0 + count s vs

-- what each variable but K says of the network
unfoldable pub said_without_counts : ℕ → Net → Assignment
said_without_counts n net (S i c j) = node (fan_in c (gate_of_node n net i)) == j
said_without_counts n net (N i c) = complemented (fan_in c (gate_of_node n net i))
said_without_counts n net (A i c t) = value_at bits (walk bits (row_start n t) net.gates) (fan_in c (gate_of_node n net i))
said_without_counts n net (B i t) = slice_index_or (walk bits (row_start n t) net.gates) i false
said_without_counts n net (O j) = node net.output == j
said_without_counts n net Q = complemented net.output
said_without_counts n net (H i d) = nat_lt d (slice_index_or (walk levels (replicate (n + 1) 0) net.gates) i 0)
said_without_counts n net (K j k q) = false

-- what each variable says of a network of r gates over n inputs
unfoldable pub meaning : ℕ → ℕ → Net → Assignment
meaning n r net (S i c j) = said_without_counts n net (S i c j)
meaning n r net (N i c) = said_without_counts n net (N i c)
meaning n r net (A i c t) = said_without_counts n net (A i c t)
meaning n r net (B i t) = said_without_counts n net (B i t)
meaning n r net (O j) = said_without_counts n net (O j)
meaning n r net Q = said_without_counts n net Q
meaning n r net (H i d) = said_without_counts n net (H i d)
meaning n r net (K j k q) = nat_le q (count (said_without_counts n net) (take k (uses_of n r j)))
