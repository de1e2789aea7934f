-- Inner: what the functions over a record promise: the state that it then is, and numbers in range.
-- Assumes nothing.
use Rattle.std.specs.Prelude.{ℕ, ◌+◌, ◌-◌, ◌≤◌, ◌<◌, ◌≡◌, List, map, Bool, true, false, length, get_or, drop, eqb, leb, Result, Ok, Err}
use Rattle.wire.specs.declared.error.Error.{Error}
use Rattle.wire.specs.Read.{Bytes, ok, pick, refused, cut}
use Rattle.column.specs.declared.column.Column.{Column}
use Rattle.column.specs.Columns.{is_variable, width}
use Rattle.walk.specs.Presence.{no_column, no_mark}
use Rattle.walk.specs.Data.{data_has, data_marks}
use Rattle.tree.specs.Schemas.{Schema, as_column, child_number, or0, column_count}
use Rattle.schema.specs.declared.reader.Place.{Place}
use Rattle.tree.specs.Table.{entries_in, schemas_in}
use Rattle.shapes.specs.Shapes.{Sound}
use Rattle.shapes.specs.Masks.{Shaped}
use Rattle.grammar.specs.Grammar.{Before, other, after}
use Rattle.quick.specs.Quick.{RowStep}
use Rattle.feeding.specs.Machine.{Kind, parent_row, child_row, change_row, is_update, columns_for, State, settle, seek_from, feed}
use Rattle.incremental.specs.declared.record.Reader.{Reader}
use Rattle.incremental.specs.declared.sheet.Sheet.{Sheet}
use Rattle.incremental.specs.declared.fields.Block.{Block}
use Rattle.incremental.specs.declared.fields.Fields.{Fields}
use Rattle.incremental.specs.declared.fields.Moved.{Moved}
use Rattle.feeding.specs.Feeding.{tell, file_schemas}
use Rattle.feeding.specs.Feeding.{Reader as Standing}
use Rattle.incremental.specs.declared.feed.Next.{Next}
use Rattle.incremental.specs.Record.{kind_in, map_in, state_in, record_of}
use Rattle.incremental.specs.Calls.{told_fed}

-- the schemas of a table
abbrev pub schemas_of : Sheet → List Schema
schemas_of t = schemas_in 0 t.schemas t.slots.now

-- the number of the schema of row data of a kind
abbrev pub number_for : List Schema → Kind → ℕ
number_for S parent_row = 0
number_for S (child_row id) = or0 (child_number S id)
number_for S (change_row id) = or0 (child_number S id)

-- the number of the schema of an 87 element directly before; 0 where there is none
abbrev pub child_before : List Schema → Before → ℕ
child_before S other = 0
child_before S (after id) = or0 (child_number S id)

-- These columns stand in a block of slots.
pub record Columns (slots : List ℕ) (cs : List Column) (b : Block) : Type 0 where
  pub are : cs ≡ map as_column (entries_in b.first b.count slots)
  pub few : b.count ≤ 64
  pub inside : b.first + b.count ≤ 256

-- The fields from column j on that lie whole in a fragment s, from `start` on, were passed. The column that comes next has a field with bytes, or a length
-- in front of it; or there is none.
pub record FieldsPassed (update : Bool) (cs : List Column) (map : Bytes) (j : ℕ) (s : Bytes) (start : ℕ) (r : Fields) : Type 0 where
  pub passes :
      (S : List Schema) (n place : ℕ) (k : Kind) → columns_for S k ≡ cs → is_update k ≡ update →
      feed S (seek_from S n place k map j) (cut s start (r.at - start)) ≡ seek_from S n (place + (r.at - start)) k map r.column
  pub forward : start ≤ r.at
  pub inside : r.at ≤ length s
  pub most : r.column ≤ length cs
  pub has : r.column < length cs → data_has update cs map 0 (get_or (data_marks update cs) r.column no_mark) ≡ true
  pub sized : r.column < length cs → is_variable (get_or cs r.column no_column) ≡ false → 0 < width (get_or cs r.column no_column)

-- the bytes so far that the record of a state tells
abbrev pub place_in : Reader → ℕ
place_in r = pick (eqb r.stage 0) r.at (pick (leb 6 r.stage) r.at (r.at + r.filled))

-- The record of a state that has come to a place.
pub record Sane (r : Reader) (to : ℕ) : Type 0 where
  pub stage : r.stage ≤ 7
  pub rows : r.rows ≤ r.at
  pub comes : place_in r ≡ to
  pub mapped : r.mapped ≤ 16
  pub column : r.column ≤ 64
  pub token : 1 ≤ r.stage → r.stage ≤ 5 → 1 ≤ r.at
  pub below : 1 ≤ r.stage → r.stage ≤ 5 → r.column < 64
  pub kept : 1 ≤ r.stage → r.stage ≤ 5 → r.filled + r.more ≤ 15

-- The piece that a record keeps is whole, behind its rows.
pub record Whole (r : Reader) : Type 0 where
  pub token : 1 ≤ r.at
  pub filled : r.filled ≤ 16
  pub rows : r.rows < r.at + r.filled
  pub inside : r.at + r.filled ≤ 16777216

-- A record is that of this state, which has come to a place.
pub record Stands (st : State) (to : ℕ) (r : Reader) : Type 0 where
  pub state : state_in r ≡ st
  pub sane : Sane r to

-- A state that has come to a place: its record, or the refusal that it stopped with.
abbrev pub Reached : State → (to : ℕ) → Result Reader Error → Type 0
Reached st to (Ok r) = Stands st to r
Reached st to (Err e) = settle (refused e) ≡ st

-- From column j on, at a place, over a fragment s from `start` on: the state behind the fields that it has whole.
pub record Sought (S : List Schema) (s : Bytes) (r : Reader) (place j start : ℕ) (m : Moved) : Type 0 where
  pub state : feed S (seek_from S r.rows place (kind_in r) (map_in r) j) (cut s start (m.at - start)) ≡ state_in m.reader
  pub forward : start ≤ m.at
  pub inside : m.at ≤ length s
  pub sane : Sane m.reader (place + (m.at - start))

-- what a pass over a fragment is given
pub record Ready (t : Sheet) : Type 0 where
  pub shaped : Shaped t.slots.now t.shapes.now t.schemas
  pub steps : RowStep t.shapes.now t.step

-- what a move over a fragment s from `at` on is given: the record of a state, and room for the rest of the fragment
pub record Movable (s : Bytes) (r : Reader) (at : ℕ) : Type 0 where
  pub sane : Sane r (place_in r)
  pub further : at < length s
  pub behind : at ≤ place_in r
  pub inside : place_in r + (length s - at) ≤ 16777216

-- A move over a fragment s from `at` on: what is left of it leads to the same state, or the state has stopped.
pub record Onward (S : List Schema) (s : Bytes) (r : Reader) (at : ℕ) (m : Moved) : Type 0 where
  pub same : feed S (state_in r) (drop at s) ≡ feed S (state_in m.reader) (drop m.at s)
  pub further : at < m.at
  pub inside : m.at ≤ length s
  pub sane : Sane m.reader (place_in r + (m.at - at))

abbrev pub MovedOn : (S : List Schema) (s : Bytes) (r : Reader) (at : ℕ) → Result Moved Error → Type 0
MovedOn S s r at (Ok m) = Onward S s r at m
MovedOn S s r at (Err e) = settle (refused e) ≡ feed S (state_in r) (drop at s)

-- A state, wherever it has come to: its record, or the refusal that it stopped with.
abbrev pub Left : State → Result Reader Error → Type 0
Left st (Ok r) = Stands st (place_in r) r
Left st (Err e) = settle (refused e) ≡ st

-- the next record and the answer are those of a reader that stands so
pub record Tells (R : Standing) (n : Next) : Type 0 where
  pub keeps : n.reader ≡ record_of R
  pub answers : told_fed n.answer ≡ tell R

-- The schemas of a place are in the slots, with so many columns at most.
pub record Placed (slots : List ℕ) (p : Place) : Type 0 where
  pub sound : Sound slots p.schemas
  pub columns : column_count (schemas_in 0 p.schemas slots) ≤ p.columns
  pub few : p.columns ≤ 256

-- The schemas of a file are in the slots.
pub record Slotted (file : Bytes) (slots : List ℕ) (p : Place) : Type 0 where
  pub reads : file_schemas file ≡ ok (schemas_in 0 p.schemas slots)
  pub sound : Sound slots p.schemas
  pub columns : column_count (schemas_in 0 p.schemas slots) ≡ p.columns
  pub few : p.columns ≤ 256

-- What reading that file comes to.
abbrev pub FileRead : (file : Bytes) (slots : List ℕ) → Result Place Error → Type 0
FileRead file slots (Ok p) = Slotted file slots p
FileRead file slots (Err e) = file_schemas file ≡ refused e
