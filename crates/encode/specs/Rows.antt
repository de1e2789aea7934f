-- Inner: a row of the program as its columns and its entries.
-- Assumes nothing.
use Rattle.std.specs.Prelude.{List, length}
use Rattle.column.specs.declared.column.Column.{Column}
use Rattle.encode.specs.declared.row.Row.{Row}
use Rattle.encode.specs.Entries.{Entry}
use Rattle.encode.specs.Writers.{entries_in}

abbrev pub columns_of : Row → List Column
columns_of r = r.columns.now

-- one entry for each of them
abbrev pub row_entries : Row → List Entry
row_entries r = entries_in (length r.columns.now) r.entries.now r.values.now
