-- The table that the entries of a collection make.
use Rattle.entries.specs.declared.entries.Entries.{Entries}
use Rattle.entries.specs.Table.{Table, table_of}

-- the keys and what is kept of each
abbrev pub table : Entries → Table
table e = table_of e.rows.items
