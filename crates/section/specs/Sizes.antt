-- Inner: the sizes of elements, noted by the pass that checks a section for the one that fills its table.
-- Assumes nothing.
use Rattle.std.specs.Prelude.{ℕ, zero, suc, ◌+◌, ◌*◌, ◌-◌, ◌/◌, ◌%◌, ◌<◌, ◌≤◌, ◌≡◌, List, Bool, true, false, length, get_or, ltb, eqb, Option, Some, None}
use Rattle.wire.specs.declared.error.Input.TheVariants as input
use Rattle.wire.specs.Read.{Bytes, Read, ok, bad, ◌>>=◌, pick}
use Rattle.walk.specs.Rows.{row_end}
use Rattle.walk.specs.Updates.{update_end}
use Rattle.column.specs.declared.column.Column.{Column}
use Rattle.tree.specs.Schemas.{Schema, child_number, or0}
use Rattle.walk.specs.Data.{data_end}
use Rattle.shapes.specs.Shapes.{slot_columns}
use Rattle.shapes.specs.Masks.{Shape}
use Rattle.grammar.specs.Grammar.{columns_at, Row, entry}
use Rattle.grammar.specs.Reader.{Token, parent_token, child_token, change_token, delete_token, done_token, unknown_token, token_of, known_child, id_at, section}
use Rattle.section.specs.declared.table.Entry.{Entry}
use Rattle.section.specs.declared.notes.Size.{Size}
use Rattle.section.specs.Table.{SmallRow}

-- where the element with a token at `at` ends
unfoldable pub end_by : List Schema → Bytes → (at : ℕ) → Token → Read ℕ
end_by S s at parent_token = row_end (columns_at S 0) s (at + 1)
end_by S s at child_token = do
  k ← known_child at (child_number S (id_at s at))
  row_end (columns_at S k) s (at + 5)
end_by S s at change_token = do
  k ← known_child at (child_number S (id_at s at))
  update_end (columns_at S k) s (at + 5)
end_by S s at delete_token = ok (at + 5)
end_by S s at done_token = bad 9 at input.Single
end_by S s at unknown_token = bad 9 at input.Single

-- the end itself; 0 where there is none
abbrev pub place_in : Read ℕ → ℕ
place_in (ok e) = e
place_in (bad code offset about) = 0

-- where element number j starts
unfoldable pub element_start : List Schema → Bytes → (j : ℕ) → ℕ
element_start S s zero = 0
element_start S s (suc j) = place_in (end_by S s (element_start S s j) (token_of (get_or s (element_start S s j) 0)))

-- the bytes that it takes
abbrev pub element_size : List Schema → Bytes → (j : ℕ) → ℕ
element_size S s j = element_start S s (suc j) - element_start S s j

-- a size under 255 is noted in one byte, a longer one in three
unfoldable pub note_bytes : (size : ℕ) → ℕ
note_bytes size = pick (ltb size 255) 1 3

-- whether the element of a token is a parent that is passed by a step; the size of such is not noted
abbrev pub in_step : (step token : ℕ) → Bool
in_step zero token = false
in_step (suc n) token = eqb token 0x07

-- whether element number j is
abbrev pub is_stepped : (step : ℕ) → List Schema → Bytes → (j : ℕ) → Bool
is_stepped step S s j = in_step step (get_or s (element_start S s j) 0)

-- where the size of element number j is noted
unfoldable pub note_start : (step : ℕ) → List Schema → Bytes → (j : ℕ) → ℕ
note_start step S s zero = 0
note_start step S s (suc j) = note_start step S s j + pick (is_stepped step S s j) 0 (note_bytes (element_size S s j))

-- a size is noted at i
pub data NotedAs (sizes : List ℕ) (i size : ℕ) : Type 0 where
  in_one : size < 255 → get_or sizes i 0 ≡ size → i + 3 ≤ length sizes → NotedAs sizes i size
  in_three : 255 ≤ size → get_or sizes i 0 ≡ 255 → 256 * get_or sizes (i + 1) 0 + get_or sizes (i + 2) 0 ≡ size → i + 3 ≤ length sizes → NotedAs sizes i size

-- the sizes of the first n elements are noted
abbrev pub Noted : (step : ℕ) → List Schema → Bytes → (sizes : List ℕ) (n : ℕ) → Type 0
Noted step S s sizes n = (j : ℕ) → j < n → is_stepped step S s j ≡ false → NotedAs sizes (note_start step S s j) (element_size S s j)

-- those of some first elements are, and then a 0 stands, which no element has for its size
pub record NotedSome (step : ℕ) (S : List Schema) (s : Bytes) (sizes : List ℕ) : Type 0 where
  pub elements : ℕ
  pub noted : Noted step S s sizes elements
  pub stops : get_or sizes (note_start step S s elements) 0 ≡ 0

-- what noting a size at i writes
pub record NoteMade (entry exit : List ℕ) (i size next : ℕ) : Type 0 where
  pub noted : NotedAs exit i size
  pub onward : next ≡ i + note_bytes size
  pub stops : get_or exit next 0 ≡ 0
  pub before : (j : ℕ) → j < i → get_or exit j 0 ≡ get_or entry j 0
  pub room : i + 3 < length entry

-- What noting one size at i leaves, and where the next goes: a stepped element leaves all; else it is noted; or nothing is from here on.
pub data NotedAt (entry exit : List ℕ) (i size : ℕ) : (stepped : Bool) (next : ℕ) → Type 0 where
  passed : exit ≡ entry → NotedAt entry exit i size true i
  made : {next : ℕ} → length exit ≡ length entry → NoteMade entry exit i size next → NotedAt entry exit i size false next
  ended : {next : ℕ} → exit ≡ entry → next ≡ length entry → NotedAt entry exit i size false next

-- numbers in which nothing is noted yet
pub record Blank (sizes : List ℕ) : Type 0 where
  pub most : length sizes ≤ 16777216
  pub clear : get_or sizes 0 0 ≡ 0

-- A section that was accepted, with some sizes noted.
pub record Accepted (S : List Schema) (s : Bytes) (step : ℕ) (sizes : List ℕ) : Type 0 where
  pub rows : List Row
  pub splits : section S s ≡ ok rows
  pub some : NotedSome step S s sizes

-- the size that is noted at i, and where the next one is
pub record NotedIs (sizes : List ℕ) (i : ℕ) (stepped : Bool) (r : Option Size) : Type 0 where
  pub noted : (size : ℕ) → 1 ≤ size → stepped ≡ false → NotedAs sizes i size → r ≡ Some (record { bytes = size; next = i + note_bytes size })
  pub none : get_or sizes i 0 ≡ 0 → r ≡ None
  pub skipped : stepped ≡ true → r ≡ None

-- the kind of the row that an element makes or closes, by its token: 07, 87, 8A, 8C are 1 to 4
abbrev pub kind_by : (token : ℕ) → ℕ
kind_by token = (token % 16 + 4 * (token / 128)) / 4

-- where its data start
abbrev pub start_by : (at token : ℕ) → ℕ
start_by at token = at + 1 + 4 * (token / 128)

-- The row that it makes or closes, where the data of the row before start at `origin`.
abbrev pub row_by : Bytes → (at origin token : ℕ) → Row
row_by s at origin token =
    entry (kind_by token) (pick (eqb (token / 128) 0) 0 (id_at s at)) (pick (eqb (kind_by token / 3) 0) (start_by at token) origin)
    (pick (eqb (kind_by token % 4 / 3) 0) 0 (start_by at token))

-- an entry is that row, where an id that stands behind the token is whole
pub record EntryAt (s : Bytes) (at origin : ℕ) (e : Entry) : Type 0 where
  pub kind : e.kind ≡ kind_by (get_or s at 0)
  pub low : e.kind ≤ 4
  pub same : (1 ≤ get_or s at 0 / 128 → at + 5 ≤ length s) → entry e.kind e.id e.original e.update ≡ row_by s at origin (get_or s at 0)
  pub small : SmallRow (entry e.kind e.id e.original e.update)

-- the number of the schema of a row of a kind with a child id
abbrev pub number_for : List Schema → (kind id : ℕ) → ℕ
number_for S kind id = pick (eqb kind 1) 0 (or0 (child_number S id))

-- where the data of a row of a kind start
abbrev pub start_for : (kind at : ℕ) → ℕ
start_for kind at = pick (eqb kind 1) (at + 1) (at + 5)

-- where the element at `at` of a row of a kind ends
abbrev pub end_for : (kind : ℕ) → List Column → Bytes → (at : ℕ) → Read ℕ
end_for kind cs s at = pick (eqb kind 4) (ok (at + 5)) (data_end (eqb kind 3) cs s (start_for kind at))

-- it is asked of the shapes, or of the columns
abbrev pub ElementEnd : (slots shapes : List ℕ) (number kind : ℕ) → Bytes → (at r : ℕ) → Type 0
ElementEnd slots shapes number kind s at r =
    Shape shapes number (slot_columns slots number) → (e : ℕ) → end_for kind (slot_columns slots number) s at ≡ ok e → r ≡ e
