-- What the variables of the clauses say, in their order; literals and clauses of such variables.
use Rattle.std.specs.Prelude.{◌≡◌, ℕ, zero, suc, ◌+◌, ◌-◌, ◌*◌, ◌^◌, Bool, true, false, cond, not, ◌||◌, List, [], ◌∷◌, ◌++◌, length, nat_lt}

-- What a variable says of a network over n inputs: i and j are gates by their nodes (in S and O, j is any node), c is a fan-in
-- from 1 to 3, t is a row.
pub data Var : Type 0 where
  -- fan-in c of gate i is the node j
  S : ℕ → ℕ → ℕ → Var
  -- fan-in c of gate i is complemented
  N : ℕ → ℕ → Var
  -- the value of fan-in c of gate i in row t
  A : ℕ → ℕ → ℕ → Var
  -- the value of gate i in row t
  B : ℕ → ℕ → Var
  -- the output is the node j
  O : ℕ → Var
  -- the output is complemented
  Q : Var
  -- the level of gate i exceeds d
  H : ℕ → ℕ → Var
  -- at least q of the first k uses of gate j hold
  K : ℕ → ℕ → ℕ → Var

-- a variable or its complement
pub data NamedLiteral : Type 0 where
  pos : Var → NamedLiteral
  neg : Var → NamedLiteral

-- a clause: one of its literals has to hold
abbrev pub NamedClause : Type 0
NamedClause = List NamedLiteral

-- f a, f (a + 1) and so on, m lists, one behind the other
unfoldable pub each : {X : Type 0} → ℕ → ℕ → (ℕ → List X) → List X
each a zero f = []
each a (suc m) f = f a ++ each (suc a) m f

-- for each gate, by its node, of r gates behind n inputs
abbrev pub each_gate : {X : Type 0} → ℕ → ℕ → (ℕ → List X) → List X
each_gate n r f = each (suc n) r f

-- for each fan-in of a gate
abbrev pub each_fan_in : {X : Type 0} → (ℕ → List X) → List X
each_fan_in f = each 1 3 f

-- for each row over n inputs
abbrev pub each_row : {X : Type 0} → ℕ → (ℕ → List X) → List X
each_row n f = each 0 (2 ^ n) f

-- the uses of the gate j, with r gates behind n inputs: as a fan-in of each later gate, then as the output
abbrev pub uses_of : ℕ → ℕ → ℕ → List Var
uses_of n r j = each (suc j) (n + r - j) (λ i. S i 1 j ∷ S i 2 j ∷ S i 3 j ∷ []) ++ (O j ∷ [])

-- the uses of the gate j outnumber the fan-out limit
abbrev pub outnumber : ℕ → ℕ → ℕ → ℕ → Bool
outnumber n f r j = nat_lt f (length (uses_of n r j))

-- the variables of each kind, the last index running fastest
abbrev pub all_S : ℕ → ℕ → List Var
all_S n r = each_gate n r (λ i. each_fan_in (λ c. each 0 i (λ j. S i c j ∷ [])))

abbrev pub all_N : ℕ → ℕ → List Var
all_N n r = each_gate n r (λ i. each_fan_in (λ c. N i c ∷ []))

abbrev pub all_A : ℕ → ℕ → List Var
all_A n r = each_gate n r (λ i. each_fan_in (λ c. each_row n (λ t. A i c t ∷ [])))

abbrev pub all_B : ℕ → ℕ → List Var
all_B n r = each_gate n r (λ i. each_row n (λ t. B i t ∷ []))

abbrev pub all_O : ℕ → ℕ → List Var
all_O n r = each 0 (suc n + r) (λ j. O j ∷ [])

abbrev pub all_H : ℕ → ℕ → ℕ → List Var
all_H n d r = each_gate n r (λ i. each 0 (suc d) (λ e. H i e ∷ []))

abbrev pub all_K : ℕ → ℕ → ℕ → List Var
all_K n f r = each_gate n r (λ j. cond (outnumber n f r j)
    (each 1 (length (uses_of n r j)) (λ k. each 1 f (λ q. K j k q ∷ []))) [])

-- the variables for r gates behind n inputs, a depth limit d and a fan-out limit f, in their order
unfoldable pub variables : ℕ → ℕ → ℕ → ℕ → List Var
variables n d f r = all_S n r ++ (all_N n r ++ (all_A n r ++ (all_B n r ++ (all_O n r ++ (Q ∷ (all_H n d r ++ all_K n f r))))))
