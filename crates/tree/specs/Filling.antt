-- Promise: the reader of a schema file as code runs it: by offsets, with the table in place of the tree, the sum and the ids.
-- Its checks are the reader's, in the same order; that the two agree is proved (proofs/Agreement).
-- Assumes nothing.
use Rattle.std.specs.Prelude.{ℕ, zero, suc, ◌+◌, ◌≤◌, ◌≡◌, List, not, length, set, leb}
use Rattle.wire.specs.declared.error.Input.TheVariants.{Single}
use Rattle.wire.specs.Read.{Bytes, Read, ok, bad, ◌>>=◌, check, sized}
use Rattle.column.specs.declared.types.Kind.{Kind}
use Rattle.column.specs.declared.types.Kind.TheVariants.{Fixed, Variable, Wide, Chapter, Unknown}
use Rattle.column.specs.Types.{chapter_code, kind_of}
use Rattle.tree.specs.Numbers.{Found, number_at}
use Rattle.column.specs.Layout.{most_columns}
use Rattle.tree.specs.Tree.{most_file_columns, most_depth, most_flags, most_maximum, member}
use Rattle.tree.specs.Table.{table_size, schema_slot, packed, block, ids_in}

-- Where the reader stands: the offset, how many columns and how many schemas have slots so far, the table.
pub record Filled : Type 0 where
  pub at : ℕ
  pub columns : ℕ
  pub schemas : ℕ
  pub table : List ℕ

abbrev pub filled : (at columns schemas : ℕ) → List ℕ → Filled
filled at columns schemas table = record { at = at; columns = columns; schemas = schemas; table = table }

-- at another offset
abbrev pub moved : ℕ → Filled → Filled
moved at f = filled at f.columns f.schemas f.table

-- with a column in slot i
abbrev pub holding : (i column : ℕ) → Filled → Filled
holding i column f = filled f.at f.columns f.schemas (set f.table i column)

-- with one more schema: its block, and the next free slots for its columns
abbrev pub opened : (id count : ℕ) → Filled → Filled
opened id count f =
    filled f.at (f.columns + count) (f.schemas + 1) (set f.table (schema_slot f.schemas) (block f.columns count id))

-- a number at `at`, then its range (6)
unfoldable pub range_at : (low high : ℕ) → Bytes → ℕ → Read Found
range_at low high b at = do
  n ← number_at b at
  _ ← check (leb low n.value) 6 at
  _ ← check (leb n.value high) 6 at
  ok n

-- A column behind its type code, into slot i.
-- of fixed width
unfoldable pub fill_fixed : Bytes → (code i : ℕ) → Filled → Read Filled
fill_fixed b code i f = do
  flags ← range_at 0 most_flags b f.at
  ok (moved flags.at (holding i (packed code flags.value 0 0) f))

-- of variable length
unfoldable pub fill_variable : Bytes → (code i : ℕ) → Filled → Read Filled
fill_variable b code i f = do
  flags ← range_at 0 most_flags b f.at
  maximum ← range_at 1 most_maximum b flags.at
  ok (moved maximum.at (holding i (packed code flags.value maximum.value 0) f))

-- a chapter, whose schema `nest` reads
unfoldable pub fill_chapter : (nest : ℕ → Filled → Read Filled) → Bytes → (i : ℕ) → Filled → Read Filled
fill_chapter nest b i f = do
  flags ← range_at 0 most_flags b f.at
  id ← number_at b flags.at
  _ ← check (not (member id.value (ids_in f.schemas f.table))) 8 flags.at
  nest id.value (moved id.at (holding i (packed chapter_code flags.value 0 id.value) f))

-- by the kind of its type, whose code stands at `at`
unfoldable pub fill_kind : (nest : ℕ → Filled → Read Filled) → Bytes → Kind → (code at i : ℕ) → Filled → Read Filled
fill_kind nest b (Fixed w) code at i f = fill_fixed b code i f
fill_kind nest b Variable code at i f = fill_variable b code i f
fill_kind nest b Wide code at i f = fill_variable b code i f
fill_kind nest b Chapter code at i f = fill_chapter nest b i f
fill_kind nest b Unknown code at i f = bad 6 at Single

-- a column, into slot i
unfoldable pub fill_column : (nest : ℕ → Filled → Read Filled) → Bytes → (i : ℕ) → Filled → Read Filled
fill_column nest b i f = do
  code ← number_at b f.at
  fill_kind nest b (kind_of code.value) code.value f.at i (moved code.at f)

-- n columns, into the slots from i on
unfoldable pub fill_columns : (nest : ℕ → Filled → Read Filled) → Bytes → (n i : ℕ) → Filled → Read Filled
fill_columns nest b zero i f = ok f
fill_columns nest b (suc n) i f = do
  g ← fill_column nest b i f
  fill_columns nest b n (i + 1) g

-- a schema with this id, where d depths are left
unfoldable pub fill_schema : ℕ → Bytes → (id : ℕ) → Filled → Read Filled
fill_schema zero b id f = bad 7 f.at Single
fill_schema (suc d) b id f = do
  n ← range_at 1 most_columns b f.at
  _ ← check (leb (f.columns + n.value) most_file_columns) 7 f.at
  fill_columns (fill_schema d b) b n.value f.columns (moved n.at (opened id n.value f))

-- a file, into a table
unfoldable pub fill_file : Bytes → List ℕ → Read Filled
fill_file b table = do
  _ ← sized b
  f ← fill_schema most_depth b 0 (filled 0 0 0 table)
  _ ← check (leb (length b) f.at) 15 f.at
  ok f

-- Inner.

-- The reader has room: its offset lies in the input, every schema so far has a column, no column is one too many, the table is whole.
pub record Good (b : Bytes) (f : Filled) : Type 0 where
  pub inside : f.at ≤ length b
  pub some : f.schemas ≤ f.columns
  pub few : f.columns ≤ most_file_columns
  pub long : length f.table ≡ table_size
