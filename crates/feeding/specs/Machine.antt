-- Promise: a row section, piece by piece. A piece is what the readers ask `whole` for. A token is one byte. An id, the maps of a row, the length
-- in front of a field are kept until they are whole, and then judged by the definitions that the whole reader is made of. The bytes of a field
-- are only counted.
-- Assumes nothing.
use Rattle.std.specs.Prelude.{ℕ, zero, suc, ◌+◌, ◌*◌, ◌-◌, List, [], ◌∷◌, ◌++◌, Bool, true, false, length, get_or, drop}
use Rattle.wire.specs.declared.error.Input.{Input}
use Rattle.wire.specs.declared.error.Input.TheVariants as input
use Rattle.wire.specs.Read.{Bytes, Read, ok, bad, ◌>>=◌, pick, check}
use Rattle.wire.specs.Integers.{read_int}
use Rattle.column.specs.declared.column.Column.{Column}
use Rattle.column.specs.Columns.{width, is_variable, prefix_size, length_error}
use Rattle.column.specs.Fields.{allowed}
use Rattle.walk.specs.Presence.{no_column, presence_bytes, Mark}
use Rattle.walk.specs.Updates.{update_bytes}
use Rattle.walk.specs.Data.{data_opened, data_marks, data_has}
use Rattle.tree.specs.Schemas.{Schema, child_number, or0}
use Rattle.grammar.specs.Grammar.{Before, other, after, columns_at}
use Rattle.grammar.specs.Reader.{Token, parent_token, child_token, change_token, delete_token, done_token, unknown_token, token_of, known_child, follows}

-- Row data in progress, of a 07, an 87 or an 8A with this id.
pub data Kind : Type 0 where
  parent_row : Kind
  child_row : (id : ℕ) → Kind
  change_row : (id : ℕ) → Kind

-- what stands before the next element; the rows that these data add
abbrev pub behind : Kind → Before
behind parent_row = other
behind (child_row id) = after id
behind (change_row id) = other

abbrev pub adds : Kind → ℕ
adds parent_row = 1
adds (child_row id) = 1
adds (change_row id) = 0

abbrev pub is_update : Kind → Bool
is_update parent_row = false
is_update (child_row id) = false
is_update (change_row id) = true

-- their columns
abbrev pub columns_for : List Schema → Kind → List Column
columns_for schemas parent_row = columns_at schemas 0
columns_for schemas (child_row id) = columns_at schemas (or0 (child_number schemas id))
columns_for schemas (change_row id) = columns_at schemas (or0 (child_number schemas id))

-- column j of them
abbrev pub column_for : List Schema → Kind → ℕ → Column
column_for schemas k j = get_or (columns_for schemas k) j no_column

-- the same with their bits in the maps, and which of them have a field by these maps
abbrev pub marks_for : List Schema → Kind → List Mark
marks_for schemas k = data_marks (is_update k) (columns_for schemas k)

abbrev pub has_for : List Schema → Kind → Bytes → Mark → Bool
has_for schemas k map = data_has (is_update k) (columns_for schemas k) map 0

-- the bytes of the maps of row data
abbrev pub maps_size : (update : Bool) → List Column → ℕ
maps_size true cs = 2 * update_bytes cs
maps_size false cs = presence_bytes cs

abbrev pub map_size : List Schema → Kind → ℕ
map_size schemas k = maps_size (is_update k) (columns_for schemas k)

-- an error of a piece by itself, where the piece starts at `at`
abbrev pub from : {A : Type 0} → ℕ → Read A → Read A
from at (ok a) = ok a
from at (bad code offset name) = bad code (at + offset) name

-- What a kept piece is.
pub data Stage : Type 0 where
  -- the id behind a token at this place
  child_id : (at : ℕ) → Stage
  change_id : Before → (at : ℕ) → Stage
  delete_id : Before → (at : ℕ) → Stage
  maps : Kind → Stage
  -- the length in front of the field of column j, in row data with these maps
  prefix : Kind → (map : Bytes) (j : ℕ) → Stage

pub data State : Type 0 where
  -- so many rows; the next byte is a token, at `at`
  between : (n at : ℕ) → Before → State
  -- so many rows; the piece starts at `start`; the bytes of it so far; how many it lacks after the next one
  keep : (n start : ℕ) (held : Bytes) (more : ℕ) → Stage → State
  -- so many rows; bytes of a field up to `at`; how many it lacks after the next one; the columns from j on come next
  skip : (n at more : ℕ) → Kind → (map : Bytes) (j : ℕ) → State
  -- the done token was the last byte; so many rows, so many bytes
  finished : (n at : ℕ) → State
  stopped : (code offset : ℕ) → Input → State

-- the state that a judged piece leads to
abbrev pub settle : Read State → State
settle (ok st) = st
settle (bad code offset name) = stopped code offset name

-- so many bytes of a field, and then `rest`
abbrev pub body_of : (n at size : ℕ) → Kind → (map : Bytes) (j : ℕ) → State → State
body_of n at zero k map j rest = rest
body_of n at (suc more) k map j rest = skip n at more k map j

-- the columns from j on, with their marks: the first that has a field, or the end of the row data
unfoldable pub seek : List Schema → (n at : ℕ) → Kind → (map : Bytes) (j : ℕ) → List Mark → State
seek schemas n at k map j [] = between (n + adds k) at (behind k)
seek schemas n at k map j (m ∷ ms) =
    pick (has_for schemas k map m)
    (pick (is_variable m.column) (keep n at [] (prefix_size m.column - 1) (prefix k map j))
    (body_of n at (width m.column) k map (suc j) (seek schemas n (at + width m.column) k map (suc j) ms)))
    (seek schemas n at k map (suc j) ms)

abbrev pub seek_from : List Schema → (n at : ℕ) → Kind → (map : Bytes) (j : ℕ) → State
seek_from schemas n at k map j = seek schemas n at k map j (drop j (marks_for schemas k))

-- the maps are whole: their rules, then the fields
unfoldable pub mapped : List Schema → (n start : ℕ) (map : Bytes) → Kind → Read State
mapped schemas n start map k = do
  _ ← from start (data_opened (is_update k) (columns_for schemas k) map 0)
  ok (seek_from schemas n (start + length map) k map 0)

-- row data that start at `at`, with maps of so many bytes; there may be no map
abbrev pub row_by : List Schema → (n at size : ℕ) → Kind → Read State
row_by schemas n at zero k = mapped schemas n at [] k
row_by schemas n at (suc more) k = ok (keep n at [] more (maps k))

abbrev pub row_from : List Schema → (n at : ℕ) → Kind → Read State
row_from schemas n at k = row_by schemas n at (map_size schemas k) k

-- a token
unfoldable pub tokened : List Schema → (n at : ℕ) → Before → Token → Read State
tokened schemas n at before done_token = ok (finished n (at + 1))
tokened schemas n at before parent_token = row_from schemas n (at + 1) parent_row
tokened schemas n at before child_token = ok (keep n (at + 1) [] 3 (child_id at))
tokened schemas n at before change_token = ok (keep n (at + 1) [] 3 (change_id before at))
tokened schemas n at before delete_token = ok (keep n (at + 1) [] 3 (delete_id before at))
tokened schemas n at before unknown_token = bad 9 at input.Single

-- the length in front of a field of this column stands at `start` and ends at `at`: its rule, then so many bytes, then the columns from j on
unfoldable pub measured : List Schema → (n start at : ℕ) → Column → (size : ℕ) → Kind → (map : Bytes) (j : ℕ) → Read State
measured schemas n start at c size k map j = do
  _ ← allowed (length_error c size) start
  ok (body_of n at size k map j (seek_from schemas n (at + size) k map j))

-- A piece that starts at `start` is whole.
unfoldable pub judge : List Schema → (n start : ℕ) (held : Bytes) → Stage → Read State
judge schemas n start held (child_id at) = do
  id ← from start (read_int held 0 4)
  _ ← known_child at (child_number schemas id)
  row_from schemas n (start + length held) (child_row id)
judge schemas n start held (change_id before at) = do
  id ← from start (read_int held 0 4)
  _ ← check (follows before id) 11 at
  _ ← known_child at (child_number schemas id)
  row_from schemas n (start + length held) (change_row id)
judge schemas n start held (delete_id before at) = do
  id ← from start (read_int held 0 4)
  _ ← check (follows before id) 11 at
  ok (between n (start + length held) other)
judge schemas n start held (maps k) = mapped schemas n start held k
judge schemas n start held (prefix k map j) = do
  size ← from start (read_int held 0 (prefix_size (column_for schemas k j)))
  measured schemas n start (start + length held) (column_for schemas k j) size k map (suc j)

-- One byte.
unfoldable pub byte : List Schema → State → ℕ → State
byte schemas (between n at before) b = settle (tokened schemas n at before (token_of b))
byte schemas (keep n start held zero stage) b = settle (judge schemas n start (held ++ (b ∷ [])) stage)
byte schemas (keep n start held (suc more) stage) b = keep n start (held ++ (b ∷ [])) more stage
byte schemas (skip n at zero k map j) b = seek_from schemas n (at + 1) k map j
byte schemas (skip n at (suc more) k map j) b = skip n (at + 1) more k map j
byte schemas (finished n at) b = stopped 15 at input.Single
byte schemas (stopped code offset name) b = stopped code offset name

-- Bytes, one after the other.
unfoldable pub feed : List Schema → State → Bytes → State
feed schemas st [] = st
feed schemas st (b ∷ bs) = feed schemas (byte schemas st b) bs

abbrev pub start : State
start = between 0 0 other

-- what the whole reader answers for the bytes so far
abbrev pub closed : State → Read ℕ
closed (between n at before) = bad 1 at input.Single
closed (keep n start held more stage) = bad 1 (start + length held) input.Single
closed (skip n at more k map j) = bad 1 at input.Single
closed (finished n at) = ok n
closed (stopped code offset name) = bad code offset name
