-- Promise: one field of a present column at a position of a row (document 01, "Looking up a field": what the walk does at a column).
-- Assumes nothing.
use Rattle.std.specs.Prelude.{ℕ, eqb}
use Rattle.wire.specs.declared.error.Input.TheVariants.{Single}
use Rattle.wire.specs.Read.{Bytes, Read, ok, bad, ◌>>=◌, pick, whole}
use Rattle.wire.specs.Integers.{read_int}
use Rattle.column.specs.declared.column.Column.{Column}
use Rattle.column.specs.declared.field.Field.{Field}
use Rattle.column.specs.Columns.{width, is_variable, prefix_size, length_error}

-- a field: its two ends, and the prefixes read for it
abbrev pub field : ℕ → ℕ → ℕ → Field
field start end prefixes = record { start = start; end = end; prefixes = prefixes }

-- goes on where the error's number is 0
unfoldable pub allowed : ℕ → ℕ → Read (Unit {0})
allowed code offset = pick (eqb code 0) (ok tt) (bad code offset Single)

-- a field of so many bytes: they must be there (1)
unfoldable pub bytes_at : Bytes → ℕ → ℕ → ℕ → Read Field
bytes_at row at width prefixes = do
  end ← whole row at width
  ok (field at end prefixes)

-- A field of variable length: its prefix must be there (1) and then counts, its length is allowed (14, at the prefix),
-- its bytes must be there (1).
unfoldable pub variable_at : Column → Bytes → ℕ → Read Field
variable_at c row at = do
  start ← whole row at (prefix_size c)
  size ← read_int row at (prefix_size c)
  _ ← allowed (length_error c size) at
  bytes_at row start size 1

-- the field of a present column whose prefix, or whose bytes, stand at `at`
unfoldable pub field_at : Column → Bytes → ℕ → Read Field
unfolding variable_at bytes_at
field_at c row at = pick (is_variable c) (variable_at c row at) (bytes_at row at (width c) 0)
