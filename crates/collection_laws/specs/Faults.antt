-- The fault of a load as three numbers.
use Rattle.std.specs.Prelude.{ℕ, Option, Some, None}
use Rattle.mig.specs.Refusals.{number_of}
use Rattle.records.specs.Faults.{layer_of}
use Rattle.collection_laws.specs.declared.answer.Fault.{Fault}
use Rattle.collection_laws.specs.declared.answer.Loaded.{Loaded}

-- the number, the layer and the place of a fault; all 0 without one
abbrev pub numbers_of : Option Fault → ℕ × ℕ × ℕ
numbers_of None = (0, 0, 0)
numbers_of (Some f) = (number_of f.refusal, layer_of f.refusal, f.place)

abbrev pub fault_numbers : Loaded → ℕ × ℕ × ℕ
fault_numbers l = numbers_of l.fault
