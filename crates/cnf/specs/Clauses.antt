-- The clauses of a question and a number of gates, in seven groups, in their order.
use Rattle.std.specs.Prelude.{◌≡◌, ℕ, zero, suc, ◌+◌, ◌-◌, ◌^◌, Bool, true, false, cond, not, ◌||◌, List, [], ◌∷◌, ◌++◌, length, nat_le, nat_lt, slice_index_or}
use Rattle.mig.specs.Tables.{bit_at}
use Rattle.mig.specs.Questions.{row_start}
use Rattle.cnf.specs.Variables.{Var, S, N, A, B, O, Q, H, K, pos, neg, NamedClause, each, each_gate, each_fan_in, each_row, uses_of, outnumber}

-- exactly one of v 0 .. v (m - 1): one of all of them; not two of them, by the first, then the second
abbrev pub exactly_one : ℕ → (ℕ → Var) → List NamedClause
exactly_one m v = each 0 m (λ j. pos (v j) ∷ []) ∷ each 0 m (λ x. each (suc x) (m - suc x) (λ y. (neg (v x) ∷ neg (v y) ∷ []) ∷ []))

-- the value of the constant or the input j in row t
abbrev pub given : ℕ → ℕ → ℕ → Bool
given n t j = slice_index_or (row_start n t) j false

-- if fan-in c of gate i is a node of value v in row t, its value is v, complemented by N
abbrev pub fan_in_given : Bool → ℕ → ℕ → ℕ → ℕ → List NamedClause
fan_in_given v i c j t = cond v
    ((neg (S i c j) ∷ pos (A i c t) ∷ pos (N i c) ∷ []) ∷ (neg (S i c j) ∷ neg (A i c t) ∷ neg (N i c) ∷ []) ∷ [])
    ((neg (S i c j) ∷ neg (A i c t) ∷ pos (N i c) ∷ []) ∷ (neg (S i c j) ∷ pos (A i c t) ∷ neg (N i c) ∷ []) ∷ [])

-- if fan-in c of gate i is the gate j, its value in row t is that of j, complemented by N
abbrev pub fan_in_gate : ℕ → ℕ → ℕ → ℕ → List NamedClause
fan_in_gate i c j t =
    (neg (S i c j) ∷ neg (A i c t) ∷ pos (B j t) ∷ pos (N i c) ∷ [])
    ∷ (neg (S i c j) ∷ pos (A i c t) ∷ neg (B j t) ∷ pos (N i c) ∷ [])
    ∷ (neg (S i c j) ∷ pos (A i c t) ∷ pos (B j t) ∷ neg (N i c) ∷ [])
    ∷ (neg (S i c j) ∷ neg (A i c t) ∷ neg (B j t) ∷ neg (N i c) ∷ []) ∷ []

-- any two fan-ins of gate i that agree in row t give its value
abbrev pub gate_majority : ℕ → ℕ → List NamedClause
gate_majority i t =
    (neg (A i 1 t) ∷ neg (A i 2 t) ∷ pos (B i t) ∷ []) ∷ (pos (A i 1 t) ∷ pos (A i 2 t) ∷ neg (B i t) ∷ [])
    ∷ (neg (A i 1 t) ∷ neg (A i 3 t) ∷ pos (B i t) ∷ []) ∷ (pos (A i 1 t) ∷ pos (A i 3 t) ∷ neg (B i t) ∷ [])
    ∷ (neg (A i 2 t) ∷ neg (A i 3 t) ∷ pos (B i t) ∷ []) ∷ (pos (A i 2 t) ∷ pos (A i 3 t) ∷ neg (B i t) ∷ []) ∷ []

-- if the output is the node j of value v, it is complemented exactly where v is not the table's bit f
abbrev pub output_given : Bool → Bool → ℕ → List NamedClause
output_given v f j = cond f
    (cond v ((neg (O j) ∷ neg Q ∷ []) ∷ []) ((neg (O j) ∷ pos Q ∷ []) ∷ []))
    (cond v ((neg (O j) ∷ pos Q ∷ []) ∷ []) ((neg (O j) ∷ neg Q ∷ []) ∷ []))

-- if the output is the gate j, its value in row t, complemented by Q, is the table's bit f
abbrev pub output_gate : Bool → ℕ → ℕ → List NamedClause
output_gate f j t = cond f
    ((neg (O j) ∷ pos (B j t) ∷ pos Q ∷ []) ∷ (neg (O j) ∷ neg (B j t) ∷ neg Q ∷ []) ∷ [])
    ((neg (O j) ∷ neg (B j t) ∷ pos Q ∷ []) ∷ (neg (O j) ∷ pos (B j t) ∷ neg Q ∷ []) ∷ [])

-- how the count of the uses of gate j goes on from its use k - 1 to its use k, which is u, with a fan-out limit f
abbrev pub counter_step : ℕ → ℕ → Var → ℕ → List NamedClause
counter_step f j u k =
    each 1 f (λ q. (neg (K j (k - 1) q) ∷ pos (K j k q) ∷ []) ∷ [])
    ++ (each 1 (f - 1) (λ q. (neg u ∷ neg (K j (k - 1) q) ∷ pos (K j k (q + 1)) ∷ []) ∷ [])
    ++ ((neg u ∷ neg (K j (k - 1) f) ∷ []) ∷ []))

-- how the use u of gate j, its use k, is counted
abbrev pub counter : ℕ → ℕ → Var → ℕ → List NamedClause
counter f j u k = (neg u ∷ pos (K j k 1) ∷ []) ∷ cond (nat_lt 1 k) (counter_step f j u k) []

-- group 1: each fan-in is exactly one earlier node
abbrev pub fan_ins_chosen : ℕ → ℕ → List NamedClause
fan_ins_chosen n r = each_gate n r (λ i. each_fan_in (λ c. exactly_one i (S i c)))

-- group 2: the value of each fan-in
abbrev pub fan_in_values : ℕ → ℕ → List NamedClause
fan_in_values n r = each_gate n r (λ i. each_fan_in (λ c. each 0 i (λ j. each_row n (λ t.
    cond (nat_le j n) (fan_in_given (given n t j) i c j t) (fan_in_gate i c j t)))))

-- group 3: the value of each gate
abbrev pub gate_values : ℕ → ℕ → List NamedClause
gate_values n r = each_gate n r (λ i. each_row n (λ t. gate_majority i t))

-- group 4: the output is exactly one node
abbrev pub output_chosen : ℕ → ℕ → List NamedClause
output_chosen n r = exactly_one (suc n + r) O

-- group 5: the output computes the table
abbrev pub output_values : ℕ → ℕ → ℕ → List NamedClause
output_values n table r = each 0 (suc n + r) (λ j. each_row n (λ t.
    cond (nat_le j n) (output_given (given n t j) (bit_at table t) j) (output_gate (bit_at table t) j t)))

-- group 6: the levels, and the depth limit d
abbrev pub levels_limited : ℕ → ℕ → ℕ → List NamedClause
levels_limited n d r =
    each_gate n r (λ i. (pos (H i 0) ∷ []) ∷ each_fan_in (λ c. each (suc n) (i - suc n) (λ j. each 0 d (λ e.
    (neg (S i c j) ∷ neg (H j e) ∷ pos (H i (e + 1)) ∷ []) ∷ []))))
    ++ each_gate n r (λ j. (neg (O j) ∷ neg (H j d) ∷ []) ∷ [])

-- group 7: the fan-outs, and the fan-out limit f
abbrev pub fan_outs_limited : ℕ → ℕ → ℕ → List NamedClause
fan_outs_limited n f r = each_gate n r (λ j. cond (outnumber n f r j)
    (each 1 (length (uses_of n r j)) (λ k. counter f j (slice_index_or (uses_of n r j) (k - 1) Q) k)) [])

-- the clauses of a table over n inputs, a depth limit d, a fan-out limit f and r gates
unfoldable pub clauses_of : ℕ → ℕ → ℕ → ℕ → ℕ → List NamedClause
clauses_of n table d f r =
    fan_ins_chosen n r ++ (fan_in_values n r ++ (gate_values n r ++ (output_chosen n r
    ++ (output_values n table r ++ (levels_limited n d r ++ fan_outs_limited n f r)))))
