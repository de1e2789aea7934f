-- Remaining depth and bytes left fall. The loop goes on with the columns that are left.
-- Assumes nothing.
use Rattle.std.proofs.Common.{◌-◌, ◌≡◌, ◌<◌, ◌≤◌, ◌+◌, length}
use Rattle.tree.specs.Filling.{fill_columns, fill_schema}
use Rattle.schema.specs.Told.{placed, Ready}
use Rattle.schema.proofs.reader.+read_column_read_schema.Given as goal

abbrev pub decreases-read_column : goal.decreases-read_column
decreases-read_column l = l.depth + (length l.file.now - l.place.at)

abbrev pub decreases-read_schema : goal.decreases-read_schema
decreases-read_schema l = l.depth + (length l.file.now - l.place.at)

abbrev pub invariant-read_schema-loop-i : goal.invariant-read_schema-loop-i
invariant-read_schema-loop-i l =
    (l.i ≤ l.count) × (l.count ≤ 64) × (l.start + l.count ≤ l.here.columns) × (l.at < l.here.at) × Ready l.file l.here × (l.number < l.here.schemas)
    × (fill_columns (fill_schema (l.depth - 1) l.file) l.file l.count l.start (placed l.initial.here l.initial.table)
    ≡ fill_columns (fill_schema (l.depth - 1) l.file) l.file (l.count - l.i) (l.start + l.i) (placed l.here l.table))

abbrev pub decreases-read_schema-loop-i : goal.decreases-read_schema-loop-i
decreases-read_schema-loop-i l = l.count - l.i
