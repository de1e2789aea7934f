-- Promise: the table that code keeps of a file: one list of numbers, with a slot for each column and then one for each schema.
-- The columns of a schema lie together: when its count is read, they get the next free slots at once.
-- Assumes nothing.
use Rattle.std.specs.Prelude.{ℕ, zero, suc, ◌+◌, ◌*◌, ◌-◌, ◌/◌, ◌%◌, ◌≤◌, List, [], ◌∷◌, get_or, set}
use Rattle.column.specs.Types.{chapter_code}
use Rattle.column.specs.Layout.{most_columns}
use Rattle.tree.specs.Tree.{most_file_columns, Tree, none, field, chapter, columns, counts, chapters}
use Rattle.tree.specs.Schemas.{Entry, entry, Schema, schema}

-- as many slots for columns as a file may have, then as many for schemas
abbrev pub table_size : ℕ
table_size = 512

-- the slot of schema number k
abbrev pub schema_slot : ℕ → ℕ
schema_slot k = most_file_columns + k

-- a column in one number: its type code, its flags, its maximum, its id
abbrev pub packed : (code flags maximum id : ℕ) → ℕ
packed code flags maximum id = code + 256 * flags + 65536 * maximum + 4294967296 * id

-- a schema in one number: the slot of its first column, how many columns it has, its id
abbrev pub block : (start count id : ℕ) → ℕ
block start count id = start + 65536 * count + 4294967296 * id

-- the id in either of them
abbrev pub id_in : ℕ → ℕ
id_in slot = slot / 4294967296

-- What a table says.
-- the ids of m schemas from number k on
unfoldable pub ids_from : (k m : ℕ) → List ℕ → List ℕ
ids_from k zero table = []
ids_from k (suc m) table = id_in (get_or table (schema_slot k) 0) ∷ ids_from (k + 1) m table

-- the ids of the nested schemas, where there are k schemas: those of numbers 1 to k - 1
unfoldable pub ids_in : ℕ → List ℕ → List ℕ
ids_in k table = ids_from 1 (k - 1) table

-- Inner.

-- a column of a schema in one number
abbrev pub slot_of : Entry → ℕ
slot_of e = packed e.code e.flags e.maximum e.id

-- the parts of a column in one number
abbrev pub code_in : ℕ → ℕ
code_in slot = slot % 256

abbrev pub flags_in : ℕ → ℕ
flags_in slot = slot / 256 % 256

abbrev pub maximum_in : ℕ → ℕ
maximum_in slot = slot / 65536 % 65536

-- the parts of a schema in one number
abbrev pub start_in : ℕ → ℕ
start_in slot = slot % 65536

abbrev pub count_in : ℕ → ℕ
count_in slot = slot / 65536 % 65536

-- A table with the columns of a tree laid into it, in the order of the bytes. The first goes to slot i, n is the next free
-- slot for columns of nested schemas, k the next schema number.
unfoldable pub lay_columns : Tree → (i n k : ℕ) → List ℕ → List ℕ
lay_columns none i n k table = table
lay_columns (field code flags maximum rest) i n k table = lay_columns rest (i + 1) n k (set table i (packed code flags maximum 0))
lay_columns (chapter flags id nested rest) i n k table =
    lay_columns rest (i + 1) (n + counts nested) (k + suc (chapters nested))
    (lay_columns nested n (n + columns nested) (k + 1) (set (set table i (packed chapter_code flags 0 id)) (schema_slot k) (block n (columns nested) id)))

-- a table with schema number k and all that are nested in it, its columns from slot n on
abbrev pub lay_schema : (id : ℕ) → Tree → (n k : ℕ) → List ℕ → List ℕ
lay_schema id t n k table = lay_columns t n (n + columns t) (k + 1) (set table (schema_slot k) (block n (columns t) id))

-- a table with a whole file
abbrev pub lay_file : Tree → List ℕ → List ℕ
lay_file t table = lay_schema 0 t 0 0 table

-- the column in a slot
abbrev pub entry_in : ℕ → Entry
entry_in slot = entry (code_in slot) (flags_in slot) (maximum_in slot) (id_in slot)

-- the columns in m slots from i on
unfoldable pub entries_in : (i m : ℕ) → List ℕ → List Entry
entries_in i zero table = []
entries_in i (suc m) table = entry_in (get_or table i 0) ∷ entries_in (i + 1) m table

-- schema number k
unfoldable pub schema_in : ℕ → List ℕ → Schema
schema_in k table =
    let slot : ℕ = get_or table (schema_slot k) 0 in
    schema (id_in slot) (entries_in (start_in slot) (count_in slot) table)

-- m schemas from number k on
unfoldable pub schemas_in : (k m : ℕ) → List ℕ → List Schema
schemas_in k zero table = []
schemas_in k (suc m) table = schema_in k table ∷ schemas_in (k + 1) m table

-- where the slots of a schema lie, and how many schemas a table has
pub record Slots (start count schemas : ℕ) : Type 0 where
  pub few : count ≤ most_columns
  pub inside : start + count ≤ most_file_columns
  pub some : 1 ≤ schemas
  pub all : schemas ≤ most_file_columns
