use Rattle.std.proofs.Common.{◌≡◌, ◌-◌, ◌≤◌, max}
use Rattle.search.specs.Meaning.{raised}
use Rattle.least_gates.specs.Asked.{NoneFrom}
use Rattle.least_gates.proofs.least_gates.Given as goal

-- the numbers before `gates` are asked and answered "none"
abbrev pub invariant-loop-gates : goal.invariant-loop-gates
invariant-loop-gates g l =
    (l.gates ≤ max l.from l.end)
    × (l.place ≡ l.initial.place)
    × NoneFrom l.question l.from l.gates
    × (g.S.Search.reach l.search ≡ g.S.Search.reach l.initial.search)
    × (g.S.Search.need l.search ≡ g.S.Search.need l.initial.search)
    × (g.S.Search.count l.search ≡ raised (g.S.Search.count l.initial.search) (l.gates - l.from))
