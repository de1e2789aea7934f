-- Promise: what the program lists: the rows of a section, where both files are small enough.
-- Assumes nothing.
use Rattle.std.specs.Prelude.{ℕ, ◌≤◌, ◌<◌, ◌≡◌, List, length, leb}
use Rattle.wire.specs.declared.error.Input.{Input}
use Rattle.wire.specs.declared.error.Input.TheVariants as input
use Rattle.wire.specs.Read.{Bytes, Read, bad, ◌>>=◌, check, about}
use Rattle.grammar.specs.Grammar.{Row}
use Rattle.section.specs.Table.{rows_listed}

-- the most bytes that a file may have
abbrev pub file_limit : ℕ
file_limit = 16384

-- The sizes of both files first (19, the schema file's before the section's), then the section under the schema file.
unfoldable pub listing : (sheet rows : Bytes) (numbers : ℕ) → Read (List Row)
listing sheet rows numbers = do
  _ ← about input.Schema (check (leb (length sheet) file_limit) 19 0)
  _ ← about input.Section (check (leb (length rows) file_limit) 19 0)
  rows_listed sheet rows numbers

-- What is refused, by number, place and input: a schema file over the limit, else a section over it, else what the call that lists refuses.
pub data Refusal (sheet rows : Bytes) (numbers : ℕ) : (code place : ℕ) → Input → Type 0 where
  sheet_over : file_limit < length sheet → Refusal sheet rows numbers 19 0 input.Schema
  rows_over : length sheet ≤ file_limit → file_limit < length rows → Refusal sheet rows numbers 19 0 input.Section
  in_reading : {code place : ℕ} {name : Input} → length sheet ≤ file_limit → length rows ≤ file_limit → rows_listed sheet rows numbers ≡ bad code place name →
      Refusal sheet rows numbers code place name
