-- The uses of a gate, one after another.
use Rattle.std.specs.Prelude.{◌≡◌, ℕ, suc, ◌+◌, ◌-◌, ◌<◌, ◌≤◌, length, slice_index_or}
use Rattle.cnf.specs.Variables.{Var, Q, uses_of}
use Rattle.cnf.specs.Numbers.{first_K, total, counters}
use Rattle.clauses.specs.declared.numbering.Numbering.{Numbering}
use Rattle.clauses.specs.declared.fan_outs.Use.{Use}
use Rattle.clauses.specs.Numbering.{numbered_by}

-- the variable of the use k of a gate, counted from 1
abbrev pub use_at : Numbering → ℕ → ℕ → Var
use_at e j k = slice_index_or (uses_of e.inputs e.gates j) (k - 1) Q

-- a use of a gate, with the number of its variable, and the number of the first variable K of the gate
pub record IsUse (e : Numbering) (u : Use) : Type 0 where
  pub of_a_gate : e.inputs < u.gate
  pub placed : 1 ≤ u.place
  pub few : u.place ≤ length (uses_of e.inputs e.gates u.gate)
  pub low : u.first < 3000000
  pub numbered : u.variable ≡ numbered_by e (use_at e u.gate u.place)
  pub first : u.first ≡ first_K e.inputs e.depth e.gates + total (suc e.inputs) (u.gate - suc e.inputs) (counters e.inputs e.fan_out e.gates)
