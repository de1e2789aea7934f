-- Promise: the rows of a section, checked, and in the table that a caller lends (document 01, "Rows"): four numbers a row.
-- Assumes nothing.
use Rattle.std.specs.Prelude.{ℕ, ◌/◌, ◌<◌, ◌≡◌, List, [], ◌∷◌, ◌++◌, length, leb, Result}
use Rattle.wire.specs.declared.error.Error.{Error}
use Rattle.wire.specs.declared.error.Input.TheVariants as input
use Rattle.wire.specs.Read.{Bytes, Read, ok, bad, ◌>>=◌, check, about, sized, told}
use Rattle.wire.specs.Output.{put}
use Rattle.tree.specs.Schemas.{Schema, read_schemas}
use Rattle.grammar.specs.Grammar.{Row, entry}
use Rattle.section.specs.declared.table.Entry.{Entry}
use Rattle.grammar.specs.Reader.{section}

-- the numbers of a row
abbrev pub row_numbers : Row → List ℕ
row_numbers r = r.kind ∷ r.id ∷ r.original ∷ r.update ∷ []

-- the numbers of rows, one after the other
unfoldable pub table_numbers : List Row → List ℕ
table_numbers [] = []
table_numbers (r ∷ rs) = row_numbers r ++ table_numbers rs

-- how many rows a table of so many numbers has room for
abbrev pub room_for : ℕ → ℕ
room_for numbers = numbers / 4

-- The rows of a section under a schema file, or what is refused: the sizes (19, the file's before the section's), the file's own errors, the
-- section's.
unfoldable pub rows_checked : (file section : Bytes) → Read (List Row)
rows_checked file s = do
  _ ← about input.Schema (sized file)
  _ ← about input.Section (sized s)
  schemas ← about input.Schema (read_schemas file)
  about input.Section (section schemas s)

-- rows that fit into a table of so many numbers (16, with the rows needed)
abbrev pub fitting : (numbers : ℕ) → List Row → Read (List Row)
fitting numbers rs = do
  _ ← about input.Table (check (leb (length rs) (room_for numbers)) 16 (length rs))
  ok rs

-- The same rows in a table: all of that, and last the room.
unfoldable pub rows_listed : (file section : Bytes) → (numbers : ℕ) → Read (List Row)
rows_listed file s numbers = rows_checked file s >>= fitting numbers

-- the table afterwards: the rows and then what it held; after an error all that it held
unfoldable pub table_after : Read (List Row) → List ℕ → List ℕ
table_after (ok rs) table = put table 0 (table_numbers rs)
table_after (bad code offset about) table = table

-- how many rows
abbrev pub row_count : Read (List Row) → Read ℕ
row_count (ok rs) = ok (length rs)
row_count (bad code offset about) = bad code offset about

-- What the call that lists promises: how many rows or the error, and what the table then holds.
pub record Listed (rs : Read (List Row)) (entry exit : List ℕ) (answer : Result ℕ Error) : Type 0 where
  pub answers : told answer ≡ row_count rs
  pub leaves : exit ≡ table_after rs entry

-- Inner.

-- the rows of a section under these schemas, in a table
abbrev pub rows_fitting : List Schema → Bytes → (numbers : ℕ) → Read (List Row)
rows_fitting schemas s numbers = about input.Section (section schemas s) >>= fitting numbers

-- the row of an entry
abbrev pub row_of : Entry → Row
row_of e = entry e.kind e.id e.original e.update

-- a row whose numbers have room in the table
pub record SmallRow (r : Row) : Type 0 where
  pub kind : r.kind < 4294967296
  pub id : r.id < 4294967296
  pub original : r.original < 4294967296
  pub update : r.update < 4294967296
