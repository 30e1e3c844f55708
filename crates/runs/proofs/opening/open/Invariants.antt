use Rattle.std.proofs.Common.{◌≡◌, [], drop}
use Rattle.entries.specs.Table.{Table}
use Rattle.entries.specs.Rows.{table}
use Rattle.collection_laws.specs.Opening.{starters, DepositsAll}
use Rattle.runs.proofs.opening.open.Given as goal

-- with the networks that are left deposited, all are
abbrev pub invariant-loop-starter : goal.invariant-loop-starter
invariant-loop-starter g l =
    record {
      search : l.collection.search ≡ l.fn.search;
      all : l.starter-items ≡ starters;
      deposited : (t : Table) → DepositsAll (drop l.starter-index starters) (table l.collection.entries) t → DepositsAll starters [] t;
    }
