use Rattle.std.proofs.Common.{rules, arith, ◌≡◌, length, ◌+◌, ◌-◌, None, take, length-append, ap}
use Rattle.entries.specs.Table.{table_of}
use Rattle.collection_laws.specs.Calls.{export_bytes}
use Rattle.transfer.proofs.Written.{none_more, record_more, rows_within, written_more}
use Rattle.transfer.proofs.exports.write_records.Goals as goal
use Rattle.transfer.proofs.exports.write_records.Goals.{in-Some+in_ok-record, in_default}

-- the next record lies within the records of all rows
pub slice_bounds-copy_from_slice-end : goal.slice_bounds-copy_from_slice-end
slice_bounds-copy_from_slice-end c =
    let rows = c.args.rows.now in
    let i = c.loop-row.row-index in
    let bytes = c.in_ok-record.record.items in
    let more = record_more rows i c.row-item.result c.in-Some.network c.question.result bytes (omega arith) c.row-item.is
    c.in-Some.is c.question.ensures c.in_ok-record.ensures.is_the_record in
    let long = length-append (export_bytes (table_of (take i rows))) bytes in
    let within = rows_within rows (i + 1) in
    omega (arith, ap length more, long, within, c.len-end.ensures.value)

-- a record stands behind those of the rows before, or there is none
pub loop-row-preserved : goal.loop-row-preserved
loop-row-preserved c =
    let rows = c.args.rows.now in
    let i = c.loop-row.row-index in
    let so_far = export_bytes (table_of (take i rows)) in
    let inv = c.loop-row.invariant in
    elim c.match-row.branch [
      | in-Some+in_ok-record w ↦
          let bytes = w.in_ok-record.record.items in
          let more = record_more rows i c.row-item.result w.in-Some.network w.question.result bytes (omega arith) c.row-item.is
          w.in-Some.is w.question.ensures w.in_ok-record.ensures.is_the_record in
          let count : c.loop-row.end + w.len-end.result - c.loop-row.end ≡ length bytes = omega (arith, w.len-end.ensures.value) in
          let behind = written_more so_far bytes c.args.buffer.now c.loop-row.buffer _ _ inv.so_far count inv.written in
          record {
            so_far = omega (arith, ap length more, length-append so_far bytes, w.len-end.ensures.value, w.end-is);
            written = rw (w.buffer-is, w.copy_from_slice.ensures.after, w.deref.ensures.0, more) behind;
          }
      | in_default w ↦
          let none : c.row-item.result.network ≡ None = search rules in
          let same = none_more rows i c.row-item.result (omega arith) c.row-item.is none in
          record { so_far = rw (w.end-is, same) inv.so_far; written = rw (w.buffer-is, same) inv.written }
    ]
