-- Promise: the bytes of a row of either kind. Behind it stands what the row writers' inner functions are asked for, in the terms of the rows
-- that are written.
-- Assumes nothing.
use Rattle.std.specs.Prelude.{ℕ, ◌≤◌, ◌≡◌, List, ◌++◌, Bool, true, false, length, get_or, Option, Some, None}
use Rattle.wire.specs.declared.error.Input.TheVariants as input
use Rattle.wire.specs.Output.{put}
use Rattle.wire.specs.Read.{Bytes, Read, ok, ◌>>=◌, pick, about}
use Rattle.column.specs.declared.column.Column.{Column}
use Rattle.column.specs.Columns.{is_nullable}
use Rattle.column.specs.Layout.{most_columns}
use Rattle.encode.specs.declared.entry.Entry as E
use Rattle.encode.specs.declared.entry.Entry.TheVariants as entry
use Rattle.encode.specs.declared.map.Map.{Map}
use Rattle.encode.specs.declared.map.Map.TheVariants as maps
use Rattle.encode.specs.Entries.{Entry, value, null, unchanged, Given, is_entry, entry_of}
use Rattle.encode.specs.Encoding.{is_value, is_change, is_forced, presence_bits, update_bits, force_bits, pack, fields_of, original_bytes, update_data}
use Rattle.encode.specs.Writers.{in_original, in_update, entries_stand}

-- the bytes of update data, or of an original row
abbrev pub row_in : (update : Bool) → List Column → List Entry → Bytes
row_in update = pick update update_data original_bytes

-- Inner.

-- what an entry of the program says
abbrev pub told_entry : E.Entry → Entry
told_entry entry.Null = null
told_entry (entry.Value v) = value v.now
told_entry entry.Unchanged = unchanged

-- What is read of the numbers of an entry: the entry, or none where they say none.
abbrev pub ReadsEntry : Bytes → Given → Option E.Entry → Type 0
ReadsEntry values g None = is_entry values g ≡ false
ReadsEntry values g (Some e) = (is_entry values g ≡ true) × (told_entry e ≡ entry_of values g)

-- which entries can stand, in update data or in an original row
abbrev pub stands_in : (update : Bool) → Column → Entry → Bool
stands_in update = pick update in_update in_original

-- the maps in front of the fields
unfoldable pub maps_in : (update : Bool) → List Column → List Entry → Bytes
maps_in true cs es = pack (update_bits es) ++ pack (force_bits es)
maps_in false cs es = pack (presence_bits cs es)

-- the size of the fields, where each entry can stand
unfoldable pub fields_size : (Column → Entry → Bool) → List Column → List Entry → Read ℕ
fields_size stands cs es = do
  _ ← about input.Entries (entries_stand stands 0 cs es)
  ok (length (fields_of cs es))

-- a column has a bit in a map
unfoldable pub has_bit : Map → Column → Bool
has_bit maps.Presence c = is_nullable c
has_bit maps.Update c = true
has_bit maps.Force c = true

-- an entry's bit in a map
unfoldable pub bit_of : Map → Entry → Bool
bit_of maps.Presence e = is_value e
bit_of maps.Update e = is_change e
bit_of maps.Force e = is_forced e

-- the bits of a map
unfoldable pub bits_of : Map → List Column → List Entry → List Bool
bits_of maps.Presence cs es = presence_bits cs es
bits_of maps.Update cs es = update_bits es
bits_of maps.Force cs es = force_bits es

-- An array holds so many bits, and 0 behind them.
pub record Held (bits array : List Bool) (count : ℕ) : Type 0 where
  pub same : (k : ℕ) → get_or array k false ≡ get_or bits k false
  pub counts : count ≡ length bits
  pub few : count ≤ most_columns

-- A piece was laid over an output from a place on, and its size was answered.
pub record Laid (piece : Bytes) (place : ℕ) (entry exit : Bytes) (answer : ℕ) : Type 0 where
  pub answers : answer ≡ length piece
  pub leaves : exit ≡ put entry place piece
