-- Promise: the examples of document 01 that are to be proved: calls, and what the paper says that they answer.
-- Assumes nothing.
use Rattle.std.specs.Prelude.{ℕ, List, [], ◌∷◌, map, length}
use Rattle.wire.specs.Read.{Bytes, Read, ok, bad}
use Rattle.header.specs.declared.header.Header.{Header}
use Rattle.header.specs.Header.{header_of}
use Rattle.tree.specs.Schemas.{Entry, entry, Schema, read_schemas}
use Rattle.walk.specs.Rows.{Answer, field, null, chapter}
use Rattle.grammar.specs.Grammar.{Row}
use Rattle.section.specs.Table.{row_numbers, rows_checked, rows_listed}
use Rattle.adtg.specs.Rows.{look_up_in}

-- a call with its inputs; of a table for rows, how many numbers it holds
pub data Call : Type 0 where
  read_header : Bytes → Call
  read_schema : Bytes → Call
  look_up : (file row : Bytes) (column : ℕ) → Call
  check_rows : (file section : Bytes) → Call
  list_rows : (file section : Bytes) (table : ℕ) → Call

-- an answer in the paper's words: where a piece ends, the columns of the top schema, a field by its two ends and its prefixes, null, a
-- chapter, how many rows, rows by their numbers in the table, or an error by its number and place
pub data Said : Type 0 where
  ends_at : ℕ → Said
  columns_are : List Entry → Said
  field_at : (start end prefixes : ℕ) → Said
  is_null : Said
  is_chapter : Said
  rows_number : ℕ → Said
  rows_are : List (List ℕ) → Said
  refused_at : ℕ → ℕ → Said

abbrev pub say_end : Read Header → Said
say_end (ok h) = ends_at h.end
say_end (bad code offset about) = refused_at code offset

abbrev pub top_of : List Schema → List Entry
top_of [] = []
top_of (s ∷ schemas) = s.columns

abbrev pub say_columns : Read (List Schema) → Said
say_columns (ok schemas) = columns_are (top_of schemas)
say_columns (bad code offset about) = refused_at code offset

abbrev pub say_field : Read Answer → Said
say_field (ok (field f)) = field_at f.start f.end f.prefixes
say_field (ok null) = is_null
say_field (ok chapter) = is_chapter
say_field (bad code offset about) = refused_at code offset

abbrev pub say_count : Read (List Row) → Said
say_count (ok rows) = rows_number (length rows)
say_count (bad code offset about) = refused_at code offset

abbrev pub say_rows : Read (List Row) → Said
say_rows (ok rows) = rows_are (map row_numbers rows)
say_rows (bad code offset about) = refused_at code offset

-- what the definitions answer to a call
abbrev pub answer_to : Call → Said
answer_to (read_header bytes) = say_end (header_of bytes)
answer_to (read_schema bytes) = say_columns (read_schemas bytes)
answer_to (look_up file row column) = say_field (look_up_in file 0 row column)
answer_to (check_rows file section) = say_count (rows_checked file section)
answer_to (list_rows file section table) = say_rows (rows_listed file section table)

pub record Example : Type 0 where
  pub call : Call
  pub said : Said

abbrev pub example : Call → Said → Example
example c s = record { call = c; said = s }

-- Sheet S of the paper: a four-byte integer; nullable wide text, 10; a nullable byte
abbrev pub S : Bytes
S = 0x03 ∷ 0x03 ∷ 0x00 ∷ 0x82 ∷ 0x01 ∷ 0x01 ∷ 0x0A ∷ 0x11 ∷ 0x01 ∷ []

-- the paper's rows under S: all present, text null, cut off behind the integer, a length of 3
abbrev pub whole : Bytes
whole = 0xC0 ∷ 0x05 ∷ 0x00 ∷ 0x00 ∷ 0x00 ∷ 0x04 ∷ 0x68 ∷ 0x00 ∷ 0x69 ∷ 0x00 ∷ 0x2A ∷ []

abbrev pub text_null : Bytes
text_null = 0x7F ∷ 0x05 ∷ 0x00 ∷ 0x00 ∷ 0x00 ∷ 0x2A ∷ []

abbrev pub cut_off : Bytes
cut_off = 0xC0 ∷ 0x05 ∷ 0x00 ∷ 0x00 ∷ 0x00 ∷ []

abbrev pub odd_text : Bytes
odd_text = 0xC0 ∷ 0x05 ∷ 0x00 ∷ 0x00 ∷ 0x00 ∷ 0x03 ∷ []

-- Sheet T of the paper: a four-byte integer; a chapter with id 7, whose schema is a byte
abbrev pub T : Bytes
T = 0x02 ∷ 0x03 ∷ 0x00 ∷ 0x88 ∷ 0x01 ∷ 0x00 ∷ 0x07 ∷ 0x01 ∷ 0x11 ∷ 0x00 ∷ []

-- the section under T, with this id and these maps in its 8A
abbrev pub section_with : (id update force : ℕ) → Bytes
section_with id update force =
    0x07 ∷ 0x05 ∷ 0x00 ∷ 0x00 ∷ 0x00 ∷ 0x87 ∷ 0x07 ∷ 0x00 ∷ 0x00 ∷ 0x00 ∷ 0x2A ∷ 0x8A ∷ id ∷ 0x00 ∷ 0x00 ∷ 0x00 ∷ update ∷ force ∷ 0x2B ∷ 0x0F ∷ []

-- as the paper has it
abbrev pub section_t : Bytes
section_t = section_with 0x07 0x80 0x00

-- the list, in the paper's order
unfoldable pub examples : List Example
examples =
    example (read_header (0x01 ∷ 0x07 ∷ 0x54 ∷ 0x47 ∷ 0x21 ∷ 0x01 ∷ 0x00 ∷ 0x00 ∷ 0x00 ∷ [])) (ends_at 9)
    ∷ example (read_header (0x01 ∷ 0x08 ∷ [])) (refused_at 2 1)
    ∷ example (read_schema S) (columns_are (entry 0x03 0 0 0 ∷ entry 0x82 1 10 0 ∷ entry 0x11 1 0 0 ∷ []))
    ∷ example (read_schema (0x83 ∷ 0x00 ∷ [])) (refused_at 5 0)
    ∷ example (look_up S whole 0) (field_at 1 5 0)
    ∷ example (look_up S whole 1) (field_at 6 10 1)
    ∷ example (look_up S whole 2) (field_at 10 11 1)
    ∷ example (look_up S text_null 1) is_null
    ∷ example (look_up S text_null 2) (field_at 5 6 0)
    ∷ example (look_up S cut_off 0) (field_at 1 5 0)
    ∷ example (look_up S cut_off 2) (refused_at 1 5)
    ∷ example (look_up S odd_text 1) (refused_at 14 5)
    ∷ example (check_rows S (0x0F ∷ [])) (rows_number 0)
    ∷ example (check_rows T section_t) (rows_number 2)
    ∷ example (check_rows T (section_with 0x08 0x80 0x00)) (refused_at 11 11)
    ∷ example (list_rows S (0x0F ∷ []) 0) (rows_are [])
    ∷ example (list_rows S (0x0F ∷ 0x0F ∷ []) 0) (refused_at 15 1)
    ∷ example (list_rows T section_t 8) (rows_are ((1 ∷ 0 ∷ 1 ∷ 0 ∷ []) ∷ (3 ∷ 7 ∷ 10 ∷ 16 ∷ []) ∷ []))
    ∷ example (list_rows T section_t 7) (refused_at 16 2)
    ∷ example (list_rows T (section_with 0x08 0x80 0x00) 8) (refused_at 11 11)
    ∷ example (list_rows T (section_with 0x07 0x00 0x80) 8) (refused_at 13 17)
    ∷ []
