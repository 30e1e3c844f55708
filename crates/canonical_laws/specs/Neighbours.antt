-- Neighbouring gates in order of a key.
use Rattle.std.specs.Prelude.{ℕ, ◌+◌, ◌<◌, ◌≤◌, ◌≢◌}
use Rattle.mig.specs.declared.network.Gate.{Gate}
use Rattle.mig.specs.Networks.{Net, size, node}
use Rattle.mig.specs.Normal.{gate_at}

-- of two neighbouring gates, the later has the gate before it as its third fan-in, or its key is not less
abbrev pub OrderedNeighbours : (Gate → ℕ) → ℕ → Net → Type 0
OrderedNeighbours key n net =
    (i : ℕ) → i + 1 < size net → (node (gate_at net (i + 1)).third ≢ n + 1 + i) → key (gate_at net i) ≤ key (gate_at net (i + 1))
