-- Promise: demand 2, round trips: what an output holds after a writer, what is read back from it, and which rows are written back as they were.
-- Assumes nothing.
use Rattle.std.specs.Prelude.{ℕ, ◌+◌, ◌≤◌, ◌<◌, ◌≡◌, List, ◌++◌, length, take, drop, get_or}
use Rattle.wire.specs.Read.{Bytes, AreBytes, Read, ok, limit}
use Rattle.wire.specs.Output.{output_after}
use Rattle.column.specs.declared.column.Column.{Column}
use Rattle.header.specs.Header.{header_written}
use Rattle.options.specs.Options.{options_written}
use Rattle.numbers.specs.Writer.{file_written, numbers_listed}
use Rattle.walk.specs.Presence.{no_column}
use Rattle.walk.specs.Rows.{Answer}
use Rattle.walk.specs.Updates.{UpdateAnswer}
use Rattle.encode.specs.Entries.{given_at, entry_of}
use Rattle.encode.specs.Writers.{output_with}
use Rattle.encode.specs.Trips.{Says, SaysUpdate, numbers_of, numbers_of_update, numbers_from, ReservedZero, UpdateReservedZero}
use Rattle.adtg.specs.Plans.{columns_of}
use Rattle.adtg.specs.Rows.{look_up_in, row_end_in}
use Rattle.adtg.specs.Updates.{look_update_in, update_end_in}
use Rattle.adtg.specs.Writers.{write_original_in, write_update_in}

-- an output with a piece at a place, and all else as it was
abbrev pub laid : (out : Bytes) (place : ℕ) (piece : Bytes) → Bytes
laid out place piece = take place out ++ piece ++ drop (place + length piece) out

-- What an output holds after each writer, as the contracts have it (`Wrote`, `WroteAt`, `Lists`).
-- after the writer of a header
abbrev pub header_output : (major minor order unicode : ℕ) (out : Bytes) → Bytes
header_output major minor order unicode out = output_after (header_written major minor order unicode (length out)) out

-- of handler options
abbrev pub options_output : (first second third : Bytes) (async : ℕ) (out : Bytes) → Bytes
options_output first second third async out = output_after (options_written first second third async (length out)) out

-- of a schema file
abbrev pub file_output : (numbers : List ℕ) (out : Bytes) → Bytes
file_output numbers out = output_after (file_written numbers (length out)) out

-- a table after the numbers of a schema file are listed
abbrev pub numbers_table : (file : Bytes) (table : List ℕ) → List ℕ
numbers_table file table = output_after (numbers_listed file (length table)) table

-- after the writer of an original row
abbrev pub original_output : (file : Bytes) (number : ℕ) (entries : List ℕ) (values : Bytes) (place : ℕ) (out : Bytes) → Bytes
original_output file number entries values place out = output_with (write_original_in file number entries values (length out) place) place out

-- of update data
abbrev pub update_output : (file : Bytes) (number : ℕ) (entries : List ℕ) (values : Bytes) (place : ℕ) (out : Bytes) → Bytes
update_output file number entries values place out = output_with (write_update_in file number entries values (length out) place) place out

-- Each column of a row, looked up in it, says the entry that was given for this column: a value's bytes, null, or a chapter.
abbrev pub OriginalSays : (look : Bytes → ℕ → Read Answer) (cs : List Column) (entries : List ℕ) (values row : Bytes) → Type 0
OriginalSays look cs entries values row = (k : ℕ) → k < length cs → Says row (get_or cs k no_column) (entry_of values (given_at entries k)) (look row k)

-- The same of update data: a value's bytes, null by force, unchanged, or a chapter.
abbrev pub UpdateSays : (look : Bytes → ℕ → Read UpdateAnswer) (cs : List Column) (entries : List ℕ) (values row : Bytes) → Type 0
UpdateSays look cs entries values row = (k : ℕ) → k < length cs → SaysUpdate row (get_or cs k no_column) (entry_of values (given_at entries k)) (look row k)

-- The premises there: the schema of this number in a valid file has these columns; the writer accepts, and writes this row; what the output
-- holds from the place on is within the limit of a look-up's input.
pub record Accepted (file : Bytes) (number : ℕ) (cs : List Column) (written : Read Bytes) (row : Bytes) (place : ℕ) (out : Bytes) : Type 0 where
  pub columns : columns_of file number ≡ ok cs
  pub accepts : written ≡ ok row
  pub within : length (drop place out) ≤ limit

-- what look-ups read off a row, for each of its columns, as it is given to a writer: the values are the row itself
abbrev pub original_read : (file : Bytes) (number count : ℕ) (row : Bytes) → List ℕ
original_read file number count row = numbers_from (λ (k : ℕ). numbers_of (look_up_in file number row k)) count 0

-- off update data
abbrev pub update_read : (file : Bytes) (number count : ℕ) (update : Bytes) → List ℕ
update_read file number count update = numbers_from (λ (k : ℕ). numbers_of_update (look_update_in file number update k)) count 0

-- Each of these numbers is within the limit, and so fits the 32 bits in which a writer takes it.
abbrev pub Within : List ℕ → Type 0
Within numbers = (i : ℕ) → get_or numbers i 0 ≤ limit

-- The premises back: the schema of this number in a valid file has these columns; under it the row is accepted, and ends at `end`; its
-- reserved bits are 0.
pub record OriginalRow (file : Bytes) (number : ℕ) (cs : List Column) (row : Bytes) (end : ℕ) : Type 0 where
  pub columns : columns_of file number ≡ ok cs
  pub bytes : AreBytes row
  pub ends : row_end_in file number row 0 ≡ ok end
  pub reserved : ReservedZero cs row

-- the same of update data
pub record UpdateRow (file : Bytes) (number : ℕ) (cs : List Column) (update : Bytes) (end : ℕ) : Type 0 where
  pub columns : columns_of file number ≡ ok cs
  pub bytes : AreBytes update
  pub ends : update_end_in file number update 0 ≡ ok end
  pub reserved : UpdateReservedZero cs update
