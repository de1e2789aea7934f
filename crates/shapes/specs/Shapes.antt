-- Promise: what code keeps of a file's schemas for going over rows quickly, in one list of numbers: eight for each schema, then two for
-- each stop: its word and its mask. Of the eight the first is the form of original rows, the second that of update data; masks of columns
-- are the next four.
-- Assumes nothing.
use Rattle.std.specs.Prelude.{ℕ, ◌+◌, ◌*◌, ◌-◌, ◌/◌, ◌%◌, ◌^◌, ◌<◌, ◌≤◌, ◌≡◌, ◌⊎◌, List, map, Bool, true, false, length, get_or}
use Rattle.std.proofs.Math.Option.{some}
use Rattle.column.specs.declared.column.Column.{Column}
use Rattle.column.specs.Packed.{packed_from}
use Rattle.column.specs.Stops.{Stop, no_stop, stop_in}
use Rattle.tree.specs.Schemas.{as_column, column_count, child_number}
use Rattle.tree.specs.Table.{schema_slot, start_in, count_in, id_in, entries_in, schemas_in}
use Rattle.shapes.specs.Data.{data_stops, data_tail, data_map, data_always}

-- A form of row data: the word of the first stop, how many stops there are, the bytes of a map, the bytes behind the last stop, and 1 where
-- some field is always there.
abbrev pub form_of : (first stops map tail always : ℕ) → ℕ
form_of first stops map tail always =
    first + 65536 * stops + 16777216 * map + 4294967296 * tail + 281474976710656 * always

-- and its parts again
abbrev pub first_in : ℕ → ℕ
first_in form = form % 65536

abbrev pub stops_in : ℕ → ℕ
stops_in form = form / 65536 % 256

abbrev pub map_in : ℕ → ℕ
map_in form = form / 16777216 % 256

abbrev pub tail_in : ℕ → ℕ
tail_in form = form / 4294967296 % 65536

abbrev pub always_in : ℕ → ℕ
always_in form = form / 281474976710656

-- where the form of schema number k stands
abbrev pub form_at : (update : Bool) (k : ℕ) → ℕ
form_at false k = 8 * k
form_at true k = 8 * k + 1

-- a mask with one bit, in a number like that of a map: the first bit is on top
abbrev pub bit_mask : (bit : ℕ) → ℕ
bit_mask bit = 2 ^ (63 - bit)

-- A word says a stop, and the mask beside it has the stop's bit.
pub record SayOne (word mask : ℕ) (t : Stop) : Type 0 where
  pub stop : stop_in word ≡ t
  pub bit : mask ≡ bit_mask t.bit

-- the numbers from `first` on say these stops, a word and a mask each
abbrev pub SayAll : (words : List ℕ) (first : ℕ) → List Stop → Type 0
SayAll words first ts = (i : ℕ) → i < length ts → SayOne (get_or words (first + 2 * i) 0) (get_or words (first + 2 * i + 1) 0) (get_or ts i no_stop)

-- A form says what row data of these columns are like.
pub record Formed (shapes : List ℕ) (form : ℕ) (update : Bool) (cs : List Column) : Type 0 where
  pub stops : SayAll shapes (first_in form) (data_stops update cs)
  pub inside : first_in form + 2 * length cs ≤ length shapes
  pub count : stops_in form ≡ length (data_stops update cs)
  pub map : map_in form ≡ data_map update cs
  pub tail : tail_in form ≡ data_tail update cs
  pub always : always_in form ≡ data_always update cs

-- the columns of schema number k of a table of slots
abbrev pub slot_columns : (slots : List ℕ) (k : ℕ) → List Column
slot_columns slots k = map as_column (entries_in (start_in (get_or slots (schema_slot k) 0)) (count_in (get_or slots (schema_slot k) 0)) slots)

-- Of n schemas in a table of slots: the slots of each lie in the table, and each nested one is found by its id.
pub record Sound (slots : List ℕ) (n : ℕ) : Type 0 where
  pub top : 1 ≤ n
  pub all : n ≤ 256
  pub few : (k : ℕ) → k < n → count_in (get_or slots (schema_slot k) 0) ≤ 64
  pub inside : (k : ℕ) → k < n → start_in (get_or slots (schema_slot k) 0) + count_in (get_or slots (schema_slot k) 0) ≤ 256
  pub total : column_count (schemas_in 0 n slots) ≤ 256
  pub once : (k : ℕ) → 1 ≤ k → k < n → child_number (schemas_in 0 n slots) (id_in (get_or slots (schema_slot k) 0)) ≡ some k

-- Inner.

-- the columns in slots of a table that are lent as a part of it
abbrev pub slice_columns : (slots : List ℕ) → List Column
slice_columns slots = packed_from (length slots) 0 slots

-- the slots of schema number k lie in the table
pub record Held (slots : List ℕ) (k : ℕ) : Type 0 where
  pub number : k < 256
  pub few : count_in (get_or slots (schema_slot k) 0) ≤ 64
  pub inside : start_in (get_or slots (schema_slot k) 0) + count_in (get_or slots (schema_slot k) 0) ≤ 256

-- What keeping the stops of one schema leaves: its form and its stops, from number `next` on, and all other numbers.
pub record Added (update : Bool) (cs : List Column) (next : ℕ) (entry exit : List ℕ) (form : ℕ) : Type 0 where
  pub formed : Formed exit form update cs
  pub first : first_in form ≡ next
  pub long : length exit ≡ length entry
  pub others : (i : ℕ) → (i < next) ⊎ (next + 2 * length cs ≤ i) → get_or exit i 0 ≡ get_or entry i 0
