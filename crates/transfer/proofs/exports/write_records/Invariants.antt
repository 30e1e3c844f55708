use Rattle.std.proofs.Common.{◌≡◌, length, take}
use Rattle.entries.specs.Table.{table_of}
use Rattle.collection_laws.specs.Calls.{export_bytes, written}
use Rattle.transfer.proofs.exports.write_records.Given as goal

-- the records of the rows so far stand in front, and the bytes behind them stay
abbrev pub invariant-loop-row : goal.invariant-loop-row
invariant-loop-row l = record {
  so_far : l.end ≡ length (export_bytes (table_of (take l.row-index l.rows)));
  written : l.buffer ≡ written (export_bytes (table_of (take l.row-index l.rows))) l.initial.buffer;
}
