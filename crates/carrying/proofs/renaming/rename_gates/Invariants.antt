use Rattle.std.proofs.Common.{◌≡◌, ℕ, ◌≤◌, ◌++◌, map, get_or, take, drop}
use Rattle.mig.specs.Networks.{empty_gate}
use Rattle.class_laws.specs.Renaming.{rename_gate}
use Rattle.carrying.specs.Renaming.{Replaces}
use Rattle.carrying.proofs.renaming.rename_gates.Given as goal

-- the gates before the index are renamed, those from it on are as they were
abbrev pub invariant-loop-gate : goal.invariant-loop-gate
invariant-loop-gate g l = record {
  rest : (k : ℕ) → l.gate-index ≤ k → get_or l.gates k empty_gate ≡ get_or l.initial.gates k empty_gate;
  front : (σ : ℕ → ℕ) → Replaces (goal.F-post g l.code_of) σ → l.gates ≡ map (rename_gate σ) (take l.gate-index l.initial.gates) ++ drop l.gate-index l.initial.gates;
}
