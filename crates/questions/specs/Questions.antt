-- Promise: what is asked of a schema file, and the order of checks of every call that takes one.
-- Assumes nothing.
use Rattle.std.specs.Prelude.{ℕ, ◌≤◌, ◌≡◌, List, map, length, get_or, ltb, eqb, Result, Ok, Err}
use Rattle.std.proofs.Math.Option.{Option, none, some}
use Rattle.wire.specs.declared.error.Error.{Error}
use Rattle.questions.specs.declared.file.Counts.{Counts}
use Rattle.questions.specs.declared.file.ColumnInfo.{ColumnInfo}
use Rattle.questions.specs.declared.file.Block.{Block}
use Rattle.wire.specs.declared.error.Input.TheVariants as input
use Rattle.wire.specs.Read.{Bytes, Read, ok, bad, ◌>>=◌, pick, check, about, refused, sized}
use Rattle.column.specs.declared.column.Column.{Column}
use Rattle.column.specs.declared.columns.Columns.{Columns}
use Rattle.column.specs.Layout.{most_columns, layout}
use Rattle.column.specs.Packed.{packed_from}
use Rattle.column.specs.Types.{chapter_code}
use Rattle.tree.specs.Schemas.{Entry, entry, as_column, Schema, read_schemas, schema_count, column_count, schema_at, child_number, or0}
use Rattle.tree.specs.Table.{entries_in, schemas_in, Slots}

-- Every call that takes a schema file and a schema number checks in this order: the file's size (19), the sizes of the
-- other inputs, the file's own errors, the schema number (18), then the rest.
unfoldable pub with_schema : {A : Type 0} → Bytes → (sizes : Read (Unit {0})) → ℕ → (List Schema → List Entry → Read A) → Read A
with_schema b sizes k rest = do
  _ ← about input.Schema (sized b)
  _ ← sizes
  schemas ← about input.Schema (read_schemas b)
  s ← about input.SchemaNumber (schema_at schemas k)
  rest schemas s.columns

-- no other input has a size
abbrev pub alone : Read (Unit {0})
alone = ok tt

-- how many schemas and columns a file has
unfoldable pub counts_of : Bytes → Read Counts
counts_of b = do
  schemas ← read_schemas b
  ok (record { schemas = schema_count schemas; columns = column_count schemas })

-- how many columns a schema has
unfoldable pub column_count_of : Bytes → ℕ → Read ℕ
column_count_of b k = with_schema b alone k (λ schemas columns. ok (length columns))

-- The columns of a schema by value.
unfoldable pub columns_of : Bytes → ℕ → Read Columns
columns_of b k = with_schema b alone k (λ schemas columns. ok (layout (map as_column columns)))

-- The columns of a schema, each in a slot.
unfoldable pub column_list_of : Bytes → ℕ → Read (List Column)
column_list_of b k = with_schema b alone k (λ schemas columns. ok (map as_column columns))

abbrev pub told_slots : Result ℕ Error → List ℕ → Read (List Column)
told_slots (Ok n) s = ok (packed_from n 0 s)
told_slots (Err e) s = refused e

abbrev pub Few : Result ℕ Error → Type 0
Few (Ok n) = n ≤ most_columns
Few (Err e) = Unit {0}

pub record Slotted (b : Bytes) (k : ℕ) (s : List ℕ) (r : Result ℕ Error) : Type 0 where
  pub answers : told_slots r s ≡ column_list_of b k
  pub few : Few r

-- the schema number that belongs to a child id; error 18 where there is none
abbrev pub found_child : Option ℕ → Read ℕ
found_child none = bad 18 0 input.ChildId
found_child (some n) = ok n

unfoldable pub child_of : Bytes → ℕ → Read ℕ
child_of b id = do
  schemas ← about input.Schema (read_schemas b)
  found_child (child_number schemas id)

-- A column that was asked for, and the number of a chapter's schema (0 for any other column).
pub record Asked : Type 0 where
  pub column : Entry
  pub nested : ℕ

abbrev pub nested_of : List Schema → Entry → ℕ
nested_of schemas e = pick (eqb e.code chapter_code) (or0 (child_number schemas e.id)) 0

unfoldable pub entry_at : List Entry → ℕ → Read Entry
entry_at columns j = do
  _ ← about input.Column (check (ltb j (length columns)) 18 0)
  ok (get_or columns j (entry 0 0 0 0))

unfoldable pub column_of : Bytes → (k j : ℕ) → Read Asked
column_of b k j =
    with_schema b alone k
    (λ schemas columns. entry_at columns j >>= λ e. ok (record { column = e; nested = nested_of schemas e }))

abbrev pub told_column : Result ColumnInfo Error → Read Asked
told_column (Ok c) = ok (record { column = entry c.code c.flags c.maximum c.id; nested = c.nested })
told_column (Err e) = refused e

-- Inner.

-- a schema of a file, with all schemas
pub record Selected : Type 0 where
  pub schemas : List Schema
  pub columns : List Entry

abbrev pub selected : List Schema → List Entry → Selected
selected schemas columns = record { schemas = schemas; columns = columns }

unfoldable pub selected_of : Bytes → ℕ → Read Selected
selected_of b k = with_schema b alone k (λ schemas columns. ok (selected schemas columns))

-- an opened schema says the columns in its slots of the table, which hold all schemas
abbrev pub told_opened : Result Block Error → List ℕ → Read Selected
told_opened (Ok b) table = ok (selected (schemas_in 0 b.schemas table) (entries_in b.start b.count table))
told_opened (Err e) table = refused e

abbrev pub InSlots : Result Block Error → Type 0
InSlots (Ok b) = Slots b.start b.count b.schemas
InSlots (Err e) = Unit {0}

pub record Opening (b : Bytes) (k : ℕ) (table : List ℕ) (r : Result Block Error) : Type 0 where
  pub answers : told_opened r table ≡ selected_of b k
  pub slots : InSlots r
