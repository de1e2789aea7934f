-- Inner: look-ups in rows, and what document 01 says that they answer: its examples under S, and cases that catch likely errors.
-- Assumes nothing.
use Rattle.std.specs.Prelude.{ℕ, List, [], ◌∷◌}
use Rattle.wire.specs.declared.error.Input.{Input}
use Rattle.wire.specs.declared.error.Input.TheVariants as input
use Rattle.wire.specs.Read.{Bytes, Read, ok, bad}
use Rattle.column.specs.declared.column.Column.{Column}
use Rattle.walk.specs.Rows.{Answer, field, null, chapter, row_end, look_up_row, field_count}
use Rattle.walk.specs.Updates.{update_end, Current, updated, forced, original, current_row}

-- an answer in the paper's words: the two ends and the prefixes of a field, null, a chapter, or an error by its number and place
pub data Said : Type 0 where
  found : ℕ → ℕ → ℕ → Said
  is_null : Said
  is_chapter : Said
  refused_at : ℕ → ℕ → Said

abbrev pub say : Read Answer → Said
say (ok (field f)) = found f.start f.end f.prefixes
say (ok null) = is_null
say (ok chapter) = is_chapter
say (bad code offset about) = refused_at code offset

pub record Example : Type 0 where
  pub columns : List Column
  pub row : Bytes
  pub k : ℕ
  pub said : Said

abbrev pub example : List Column → Bytes → ℕ → Said → Example
example columns row k said = record { columns = columns; row = row; k = k; said = said }

abbrev pub column : ℕ → ℕ → ℕ → Column
column code flags maximum = record { code = code; flags = flags; maximum = maximum }

-- Sheet S of the paper: a four-byte integer; nullable wide text, 10; a nullable byte
abbrev pub S : List Column
S = column 0x03 0 0 ∷ column 0x82 1 10 ∷ column 0x11 1 0 ∷ []

-- a row under S with text of this length
abbrev long : ℕ → Bytes
long n =
    0xC0 ∷ 5 ∷ 0 ∷ 0 ∷ 0 ∷ n ∷ 0 ∷ 0 ∷ 0 ∷ 0 ∷ 0 ∷ 0 ∷ 0 ∷ 0 ∷ 0 ∷ 0 ∷ 0 ∷ 0 ∷ 0 ∷ 0 ∷ 0 ∷ 0 ∷ 0 ∷ 0 ∷ 0 ∷ 0 ∷ 9 ∷ 0 ∷ []

-- a byte, a nullable chapter
abbrev chapters : List Column
chapters = column 0x11 0 0 ∷ column 0x88 1 0 ∷ []

-- an integer, a nullable byte, a byte; an integer, text; text, nullable text
abbrev gapped : List Column
gapped = column 0x03 0 0 ∷ column 0x11 1 0 ∷ column 0x11 0 0 ∷ []

abbrev number_text : List Column
number_text = column 0x03 0 0 ∷ column 0x81 0 10 ∷ []

abbrev texts : List Column
texts = column 0x81 0 10 ∷ column 0x81 1 10 ∷ []

-- the paper's rows under S
unfoldable pub paper : List Example
paper =
    example S (0xC0 ∷ 5 ∷ 0 ∷ 0 ∷ 0 ∷ 4 ∷ 0x68 ∷ 0 ∷ 0x69 ∷ 0 ∷ 0x2A ∷ []) 0 (found 1 5 0)
    ∷ example S (0xC0 ∷ 5 ∷ 0 ∷ 0 ∷ 0 ∷ 4 ∷ 0x68 ∷ 0 ∷ 0x69 ∷ 0 ∷ 0x2A ∷ []) 1 (found 6 10 1)
    ∷ example S (0xC0 ∷ 5 ∷ 0 ∷ 0 ∷ 0 ∷ 4 ∷ 0x68 ∷ 0 ∷ 0x69 ∷ 0 ∷ 0x2A ∷ []) 2 (found 10 11 1)
    ∷ example S (0x7F ∷ 5 ∷ 0 ∷ 0 ∷ 0 ∷ 0x2A ∷ []) 1 is_null
    ∷ example S (0x7F ∷ 5 ∷ 0 ∷ 0 ∷ 0 ∷ 0x2A ∷ []) 2 (found 5 6 0)
    ∷ example S (0xC0 ∷ 5 ∷ 0 ∷ 0 ∷ 0 ∷ []) 0 (found 1 5 0)
    ∷ example S (0xC0 ∷ 5 ∷ 0 ∷ 0 ∷ 0 ∷ []) 2 (refused_at 1 5)
    ∷ example S (0xC0 ∷ 5 ∷ 0 ∷ 0 ∷ 0 ∷ 3 ∷ []) 1 (refused_at 14 5)
    ∷ example S (long 20) 1 (found 6 26 1)
    ∷ example S (long 22) 1 (refused_at 14 5)
    ∷ []

-- a chapter's bit before all else of a column; fields that are missing; two prefixes; the column number
unfoldable pub cases : List Example
cases =
    example chapters (0x80 ∷ 0x2A ∷ []) 0 (refused_at 12 0)
    ∷ example chapters (0x80 ∷ 0x2A ∷ []) 1 (refused_at 12 0)
    ∷ example chapters (0x00 ∷ []) 0 (refused_at 1 1)
    ∷ example chapters (0x00 ∷ []) 1 is_chapter
    ∷ example gapped (0x00 ∷ 5 ∷ 0 ∷ []) 2 (refused_at 1 3)
    ∷ example gapped (0x00 ∷ 5 ∷ 0 ∷ []) 1 is_null
    ∷ example number_text (5 ∷ 0 ∷ 0 ∷ []) 1 (refused_at 1 3)
    ∷ example texts (0x80 ∷ 1 ∷ 0x61 ∷ 2 ∷ 0x62 ∷ 0x63 ∷ []) 1 (found 4 6 2)
    ∷ example S [] 2 (refused_at 1 0)
    ∷ example S [] 3 (refused_at 18 0)
    ∷ []

abbrev pub answer_to : Example → Said
answer_to e = say (look_up_row e.columns e.row e.k)

-- what a current value says: a field of the update data, null by them, what the row answers, or an error by its number, place and input
pub data SaidCurrent : Type 0 where
  in_update : ℕ → ℕ → ℕ → SaidCurrent
  is_forced : SaidCurrent
  in_row : Said → SaidCurrent
  refused_in : Input → ℕ → ℕ → SaidCurrent

abbrev pub say_current : Read Current → SaidCurrent
say_current (ok (updated f)) = in_update f.start f.end f.prefixes
say_current (ok forced) = is_forced
say_current (ok (original a)) = in_row (say (ok a))
say_current (bad code offset about) = refused_in about code offset

pub record Change : Type 0 where
  pub columns : List Column
  pub row : Bytes
  pub update : Bytes
  pub k : ℕ
  pub said : SaidCurrent

abbrev pub change : List Column → Bytes → Bytes → ℕ → SaidCurrent → Change
change columns row update k said = record { columns = columns; row = row; update = update; k = k; said = said }

-- the nested sheet of the paper's T: a byte
abbrev pub nested_t : List Column
nested_t = column 0x11 0 0 ∷ []

abbrev row_s : Bytes
row_s = 0xC0 ∷ 5 ∷ 0 ∷ 0 ∷ 0 ∷ 4 ∷ 0x68 ∷ 0 ∷ 0x69 ∷ 0 ∷ 0x2A ∷ []

-- The paper's change under T, and its broken force rule. Then under S: a new text; the integer and the byte from the row; null by
-- force; force without update, and in a column that is not nullable; a later field that is missing; the row's own error. Then a
-- chapter's bits, those of the update map first; the maps before these; the column number.
unfoldable pub changes : List Change
changes =
    change nested_t (0x2A ∷ []) (0x80 ∷ 0x00 ∷ 0x2B ∷ []) 0 (in_update 2 3 0)
    ∷ change nested_t (0x2A ∷ []) (0x00 ∷ 0x80 ∷ []) 0 (refused_in input.Update 13 1)
    ∷ change S row_s (0x40 ∷ 0x00 ∷ 2 ∷ 0x68 ∷ 0 ∷ []) 1 (in_update 3 5 1)
    ∷ change S row_s (0x40 ∷ 0x00 ∷ 2 ∷ 0x68 ∷ 0 ∷ []) 0 (in_row (found 1 5 0))
    ∷ change S row_s (0x40 ∷ 0x00 ∷ 2 ∷ 0x68 ∷ 0 ∷ []) 2 (in_row (found 10 11 1))
    ∷ change S [] (0x40 ∷ 0x00 ∷ 2 ∷ 0x68 ∷ 0 ∷ []) 1 (in_update 3 5 1)
    ∷ change S [] (0x40 ∷ 0x00 ∷ 2 ∷ 0x68 ∷ 0 ∷ []) 2 (refused_in input.Row 1 0)
    ∷ change S row_s (0x40 ∷ 0x40 ∷ []) 1 is_forced
    ∷ change S row_s (0x1F ∷ 0x1F ∷ []) 1 (in_row (found 6 10 1))
    ∷ change S row_s (0x00 ∷ 0x20 ∷ []) 0 (refused_in input.Update 13 1)
    ∷ change S row_s (0x80 ∷ 0x80 ∷ []) 1 (refused_in input.Update 13 1)
    ∷ change S row_s (0xA0 ∷ 0x00 ∷ 5 ∷ 0 ∷ 0 ∷ 0 ∷ []) 0 (refused_in input.Update 1 6)
    ∷ change chapters (0x00 ∷ 0x2A ∷ []) (0x40 ∷ 0x40 ∷ []) 0 (refused_in input.Update 12 0)
    ∷ change chapters (0x00 ∷ 0x2A ∷ []) (0x00 ∷ 0xC0 ∷ []) 0 (refused_in input.Update 12 1)
    ∷ change chapters (0x00 ∷ 0x2A ∷ []) (0x40 ∷ []) 0 (refused_in input.Update 1 1)
    ∷ change chapters (0x00 ∷ 0x2A ∷ []) (0x00 ∷ 0x00 ∷ []) 1 (in_row is_chapter)
    ∷ change chapters (0x80 ∷ 0x2A ∷ []) (0x00 ∷ 0x00 ∷ []) 1 (refused_in input.Row 12 0)
    ∷ change S [] [] 3 (refused_in input.Column 18 0)
    ∷ []

abbrev pub answer_to_change : Change → SaidCurrent
answer_to_change c = say_current (current_row c.columns c.row c.update c.k)

-- Where rows and update data end in a longer input: the rows of the paper's section under T, and those of S.
pub data Piece : Type 0 where
  a_row : List Column → Bytes → ℕ → Piece
  an_update : List Column → Bytes → ℕ → Piece
  its_fields : List Column → Bytes → Piece

-- what they answer: a number, or an error by its number and place
pub data SaidEnd : Type 0 where
  ends_at : ℕ → SaidEnd
  end_refused : ℕ → ℕ → SaidEnd

abbrev pub say_end : Read ℕ → SaidEnd
say_end (ok n) = ends_at n
say_end (bad code offset about) = end_refused code offset

abbrev pub answer_to_piece : Piece → SaidEnd
answer_to_piece (a_row columns row at) = say_end (row_end columns row at)
answer_to_piece (an_update columns row at) = say_end (update_end columns row at)
answer_to_piece (its_fields columns row) = say_end (field_count columns row)

pub record Ending : Type 0 where
  pub piece : Piece
  pub said : SaidEnd

abbrev pub ending : Piece → SaidEnd → Ending
ending p s = record { piece = p; said = s }

-- the paper's sheet T: an integer, a chapter
abbrev pub T : List Column
T = column 0x03 0 0 ∷ column 0x88 0 0 ∷ []

-- the paper's section under T
abbrev section : Bytes
section =
    0x07 ∷ 5 ∷ 0 ∷ 0 ∷ 0 ∷ 0x87 ∷ 7 ∷ 0 ∷ 0 ∷ 0 ∷ 0x2A ∷ 0x8A ∷ 7 ∷ 0 ∷ 0 ∷ 0 ∷ 0x80 ∷ 0x00 ∷ 0x2B ∷ 0x0F ∷ []

unfoldable pub endings : List Ending
endings =
    ending (a_row T section 1) (ends_at 5)
    ∷ ending (a_row nested_t section 10) (ends_at 11)
    ∷ ending (an_update nested_t section 16) (ends_at 19)
    ∷ ending (a_row S row_s 0) (ends_at 11)
    ∷ ending (a_row S (0x07 ∷ 0xC0 ∷ 5 ∷ 0 ∷ 0 ∷ 0 ∷ 3 ∷ []) 1) (end_refused 14 6)
    ∷ ending (a_row chapters (0x07 ∷ 0x80 ∷ 0x2A ∷ []) 1) (end_refused 12 1)
    ∷ ending (a_row S (0x07 ∷ 0x20 ∷ 5 ∷ 0 ∷ []) 1) (end_refused 1 4)
    ∷ ending (its_fields S row_s) (ends_at 3)
    ∷ ending (its_fields S (0x7F ∷ [])) (ends_at 2)
    ∷ ending (its_fields S []) (end_refused 1 0)
    ∷ ending (its_fields T []) (ends_at 1)
    ∷ ending (its_fields chapters (0x80 ∷ [])) (end_refused 12 0)
    ∷ []
