-- Promise: the schemas of a file by their numbers (document 01's sheet numbers), and what is asked of them.
-- Assumes nothing.
use Rattle.std.specs.Prelude.{ℕ, ◌+◌, List, [], ◌∷◌, ◌++◌, length, get_or, ltb, eqb}
use Rattle.std.proofs.Math.Option.{Option, none, some}
use Rattle.wire.specs.Read.{Bytes, Read, ok, ◌>>=◌, pick, check}
use Rattle.column.specs.declared.column.Column.{Column}
use Rattle.column.specs.Types.{chapter_code}
use Rattle.tree.specs.Tree.{Tree}
use Rattle.tree.specs.Tree as tree
use Rattle.tree.specs.Reader.{file_of}

-- A column: its type code, its flags, its maximum (0 where its type has none), its child id (0 but for a chapter).
pub record Entry : Type 0 where
  pub code : ℕ
  pub flags : ℕ
  pub maximum : ℕ
  pub id : ℕ

abbrev pub entry : (code flags maximum id : ℕ) → Entry
entry code flags maximum id = record { code = code; flags = flags; maximum = maximum; id = id }

-- the column as rows know it
abbrev pub as_column : Entry → Column
as_column e = record { code = e.code; flags = e.flags; maximum = e.maximum }

-- A schema: its child id (0 for the top one, which has none), its columns.
pub record Schema : Type 0 where
  pub id : ℕ
  pub columns : List Entry

abbrev pub schema : ℕ → List Entry → Schema
schema id columns = record { id = id; columns = columns }

-- the columns of the schema itself
unfoldable pub own_columns : Tree → List Entry
own_columns tree.none = []
own_columns (tree.field code flags maximum rest) = entry code flags maximum 0 ∷ own_columns rest
own_columns (tree.chapter flags id nested rest) = entry chapter_code flags 0 id ∷ own_columns rest

-- the schemas nested in it, in the order in which they start: each, then those nested in it, then those behind it
unfoldable pub nested_schemas : Tree → List Schema
nested_schemas tree.none = []
nested_schemas (tree.field code flags maximum rest) = nested_schemas rest
nested_schemas (tree.chapter flags id nested rest) = (schema id (own_columns nested) ∷ nested_schemas nested) ++ nested_schemas rest

-- the schemas of a file: the top one has number 0
unfoldable pub schemas_of : Tree → List Schema
schemas_of t = schema 0 (own_columns t) ∷ nested_schemas t

-- the schemas of a file, read
unfoldable pub read_schemas : Bytes → Read (List Schema)
read_schemas b = do
  t ← file_of b
  ok (schemas_of t)

-- What is asked of a file's schemas.
-- how many there are
abbrev pub schema_count : List Schema → ℕ
schema_count schemas = length schemas

-- how many columns they have together
unfoldable pub column_count : List Schema → ℕ
column_count [] = 0
column_count (s ∷ schemas) = length s.columns + column_count schemas

-- schema number k; error 18 where there is none
unfoldable pub schema_at : List Schema → ℕ → Read Schema
schema_at schemas k = do
  _ ← check (ltb k (length schemas)) 18 0
  ok (get_or schemas k (schema 0 []))

-- its columns; none where there is no such schema
unfoldable pub columns_of : List Schema → ℕ → List Entry
columns_of schemas k = (get_or schemas k (schema 0 [])).columns

-- the number of the first schema with this id, of some whose first one has number k
unfoldable pub number_from : ℕ → List Schema → ℕ → Option ℕ
number_from k [] id = none
number_from k (s ∷ schemas) id = pick (eqb s.id id) (some k) (number_from (k + 1) schemas id)

-- the number of the schema with this child id, which is never the top one
unfoldable pub child_number : List Schema → ℕ → Option ℕ
child_number [] id = none
child_number (top ∷ nested) id = number_from 1 nested id

-- The number of the schema with a child id; 0 where there is none, since the top schema has no child id.
abbrev pub or0 : Option ℕ → ℕ
or0 none = 0
or0 (some n) = n

-- Inner.

-- column j of schema number k; error 18 where there is none
unfoldable pub column_at : List Schema → ℕ → ℕ → Read Entry
column_at schemas k j = do
  s ← schema_at schemas k
  _ ← check (ltb j (length s.columns)) 18 0
  ok (get_or s.columns j (entry 0 0 0 0))
