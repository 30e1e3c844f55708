-- Tables, questions, and what it is for a network to meet one.
use Rattle.std.specs.Prelude.{◌≡◌, ℕ, zero, suc, ◌+◌, ◌^◌, ◌<◌, ◌≤◌, Bool, false, List, [], ◌∷◌, ◌++◌, replicate}
use Rattle.mig.specs.declared.question.Limits.{Limits}
use Rattle.mig.specs.declared.question.Question.{Question}
use Rattle.mig.specs.Tables.{bit_at}
use Rattle.mig.specs.Networks.{Net, Formed, size, output_value, bits, levels, uses}

-- the first n inputs in row t: input i has the bit i - 1 of t
unfoldable pub input_bits : ℕ → ℕ → List Bool
input_bits zero t = []
input_bits (suc n) t = input_bits n t ++ (bit_at t n ∷ [])

-- the constant, then the inputs, in row t
abbrev pub row_start : ℕ → ℕ → List Bool
row_start n t = false ∷ input_bits n t

-- what the network computes in row t
abbrev pub row_bit : ℕ → Net → ℕ → Bool
row_bit n net t = output_value bits (row_start n t) net

-- the network computes the table in every row
abbrev pub Computes : ℕ → ℕ → Net → Type 0
Computes n table net = (t : ℕ) → t < 2 ^ n → row_bit n net t ≡ bit_at table t

-- the level of the network: that of its output, where the constant and the inputs have level 0
abbrev pub level : ℕ → Net → ℕ
level n net = output_value levels (replicate (n + 1) 0) net

-- the question of n inputs, a table and limits
abbrev pub question_of : ℕ → ℕ → Limits → Question
question_of n table limits = record { inputs = n; table = table; limits = limits }

-- a question within bounds: up to four inputs, no table bit behind the rows, a depth limit of 0 to 7, a fan-out limit of 1 to 19
pub record Valid (question : Question) : Type 0 where
  pub inputs : question.inputs ≤ 4
  pub table : question.table < 2 ^ (2 ^ question.inputs)
  pub depth : question.limits.depth ≤ 7
  pub some_fan_out : 1 ≤ question.limits.fan_out
  pub fan_out : question.limits.fan_out ≤ 19

-- the level is within the depth limit, and no gate's fan-out is above the fan-out limit
pub record Within (n : ℕ) (limits : Limits) (net : Net) : Type 0 where
  pub level : level n net ≤ limits.depth
  pub fan_outs : (j : ℕ) → n < j → j < n + 1 + size net → uses j net ≤ limits.fan_out

-- f is the greatest fan-out of a gate, or 0 where there are no gates
pub record IsGreatestFanOut (n : ℕ) (net : Net) (f : ℕ) : Type 0 where
  pub above : (j : ℕ) → n < j → j < n + 1 + size net → uses j net ≤ f
  pub attained : (0 < size net) → (j : ℕ) × (n < j) × (j < n + 1 + size net) × (uses j net ≡ f)
  pub none : size net ≡ 0 → f ≡ 0

-- a network meets a question: well-formed, computes the table, within the limits
pub record Meets (question : Question) (net : Net) : Type 0 where
  pub formed : Formed question.inputs net
  pub computes : Computes question.inputs question.table net
  pub within : Within question.inputs question.limits net
