-- Promise: original rows (document 01, "Rows" and "Looking up a field"): the walk, look-up, the end of a row, the number of fields.
-- Assumes nothing.
use Rattle.std.specs.Prelude.{ℕ, zero, suc, ◌+◌, List, [], ◌∷◌, Bool, false, length, get_or, take, drop, ltb}
use Rattle.wire.specs.declared.error.Input.TheVariants as input
use Rattle.wire.specs.Read.{Bytes, Read, ok, ◌>>=◌, pick, check, about, sized, whole}
use Rattle.wire.specs.Bits.{bit_set}
use Rattle.column.specs.declared.column.Column.{Column}
use Rattle.column.specs.declared.field.Field.{Field}
use Rattle.column.specs.Columns.{is_chapter, is_nullable, is_variable}
use Rattle.column.specs.Fields.{field_at}
use Rattle.walk.specs.Presence.{no_column, one, nullables, presence_bytes, Mark, marks, mark_of, present, chapter_present, clear, count}

-- Where a walk stands: the position, and the prefixes counted so far.
pub record Place : Type 0 where
  pub at : ℕ
  pub prefixes : ℕ

abbrev pub place : ℕ → ℕ → Place
place at prefixes = record { at = at; prefixes = prefixes }

-- behind a field
abbrev pub past : Place → Field → Place
past w f = place f.end (w.prefixes + f.prefixes)

-- a field with all the prefixes read on the way to it, its own included
abbrev pub reached : Place → Field → Field
reached w f = record { start = f.start; end = f.end; prefixes = w.prefixes + f.prefixes }

-- One column of a walk: where `has` says that it has a field, that field is read; else the walk stays.
unfoldable pub step : (has : Mark → Bool) → Bytes → Mark → Place → Read Place
step has row m w =
    pick (has m)
    (do
      f ← field_at m.column row w.at
      ok (past w f))
    (ok w)

-- the walk over the first k columns; the first error ends it
unfoldable pub walk : (has : Mark → Bool) → Bytes → ℕ → List Mark → Place → Read Place
walk has row zero ms w = ok w
walk has row (suc k) [] w = ok w
walk has row (suc k) (m ∷ ms) w = do
  v ← step has row m w
  walk has row k ms v

-- the field of a column that a walk has come to
unfoldable pub arrive : Column → Bytes → Place → Read Field
arrive c row w = do
  f ← field_at c row w.at
  ok (reached w f)

-- The row at `at` opens: its map is whole (1), no chapter's bit is set (12). Where its data start.
unfoldable pub opened : List Column → Bytes → ℕ → Read ℕ
opened columns row at = do
  start ← whole row at (presence_bytes columns)
  _ ← clear (chapter_present (drop at row)) 12 at (marks 0 columns)
  ok start

-- the walk of a row at `at` over its first k columns: from behind the map, no prefix counted
unfoldable pub walked : List Column → Bytes → ℕ → ℕ → Read Place
walked columns row at k = walk (present (drop at row)) row k (marks 0 columns) (place (at + presence_bytes columns) 0)

-- the row at `at` of an input, all its fields included: where it ends
unfoldable pub row_end : List Column → Bytes → ℕ → Read ℕ
row_end columns row at = do
  _ ← opened columns row at
  w ← walked columns row at (length columns)
  ok w.at

-- What a look-up answers: the field of the column, null, or that the column is a chapter.
pub data Answer : Type 0 where
  field : Field → Answer
  null : Answer
  chapter : Answer

-- the field of column k of a row, by the walk to it
unfoldable pub field_of : List Column → Bytes → ℕ → Read Field
field_of columns row k = do
  w ← walked columns row 0 k
  arrive (get_or columns k no_column) row w

-- column k of a row that opens: a chapter, null, or its field
unfoldable pub column_of : List Column → Bytes → ℕ → Read Answer
column_of columns row k =
    pick (is_chapter (get_or columns k no_column)) (ok chapter)
    (pick (present row (mark_of columns k))
    (do
      f ← field_of columns row k
      ok (field f))
    (ok null))

-- the columns have a column k (18)
unfoldable pub known : List Column → ℕ → Read (Unit {0})
known columns k = about input.Column (check (ltb k (length columns)) 18 0)

-- A look-up in a row of allowed size: the column number (18), the map (1), the chapters' bits (12), the column.
unfoldable pub look_up : List Column → Bytes → ℕ → Read Answer
look_up columns row k = do
  _ ← known columns k
  _ ← about input.Row (opened columns row 0)
  about input.Row (column_of columns row k)

-- a look-up in any row: its size first (19)
unfoldable pub look_up_row : List Column → Bytes → ℕ → Read Answer
look_up_row columns row k = do
  _ ← about input.Row (sized row)
  look_up columns row k

-- how many columns are present in every row: not nullable, and no chapter
unfoldable pub always : List Column → ℕ
always [] = 0
always (c ∷ cs) = pick (is_chapter c) 0 (pick (is_nullable c) 0 1) + always cs

-- how many of the first n bits of a map are set
unfoldable pub set_bits : Bytes → ℕ → ℕ
set_bits map zero = 0
set_bits map (suc n) = set_bits map n + one (bit_set map n)

-- The number of fields of a row, by its map alone, which is checked as opening does (19, 1, 12).
unfoldable pub field_count : List Column → Bytes → Read ℕ
field_count columns row = do
  _ ← about input.Row (sized row)
  _ ← about input.Row (opened columns row 0)
  ok (always columns + set_bits row (nullables columns))

-- a column that has a field with a length in front of it
unfoldable pub prefixed : (has : Mark → Bool) → Mark → Bool
prefixed has m = pick (has m) (is_variable m.column) false

-- how many of the columns up to column k, its own included, are present and of variable length
unfoldable pub prefix_count : List Column → Bytes → ℕ → ℕ
prefix_count columns row k = count (prefixed (present row)) (take (suc k) (marks 0 columns))
