use Rattle.std.proofs.Common.{◌≡◌, ◌+◌, ◌≤◌, length, None}
use Rattle.records.specs.Parts.{parts_of, rest}
use Rattle.entries.specs.Table.{Table}
use Rattle.entries.specs.Rows.{table}
use Rattle.collection_laws.specs.declared.answer.Loaded.{Loaded}
use Rattle.collection_laws.specs.Loads.{LoadsFrom}
use Rattle.transfer.proofs.loads.load.Given as goal

-- a load of the parts that are left, from what was taken and passed over so far, is one of all parts from the start
abbrev pub invariant-loop-part : goal.invariant-loop-part
invariant-loop-part g l = record {
  can : (goal.iterator-loop-part g).can_next l.part-iterator;
  finite : (goal.iterator-loop-part g).is_finite l.part-iterator;
  search_stays : l.collection.search ≡ l.initial.collection.search;
  goes_on : (answer : Loaded) (t : Table)
      → LoadsFrom (rest l.part-iterator) l.loaded.taken l.loaded.passed (table l.collection.entries) answer t
      → LoadsFrom (parts_of l.bytes) 0 0 (table l.initial.collection.entries) answer t;
  fits : l.loaded.taken + l.loaded.passed + length (rest l.part-iterator) ≤ length l.bytes;
  no_fault : l.loaded.fault ≡ None;
}
