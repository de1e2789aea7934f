-- Promise: the grammar of a row section (document 01, "Rows"): which bytes are a field, a row, a section. Nothing here reads bytes one after
-- the other: a whole is its pieces joined by `++`, and a rule says what each piece has to be.
-- Assumes nothing.
use Rattle.std.specs.Prelude.{ℕ, ◌+◌, ◌*◌, ◌/◌, ◌%◌, ◌≤◌, ◌≡◌, List, [], ◌∷◌, ◌++◌, map, Bool, true, false, length, eqb}
use Rattle.std.proofs.Math.Option.{some}
use Rattle.wire.specs.Read.{Bytes}
use Rattle.wire.specs.Integers.{value_of}
use Rattle.wire.specs.Bits.{map_bytes}
use Rattle.column.specs.declared.column.Column.{Column}
use Rattle.column.specs.declared.types.Kind.TheVariants.{Variable, Wide}
use Rattle.column.specs.Columns.{kind, width, is_variable, is_chapter, is_nullable, prefix_size}
use Rattle.walk.specs.Presence.{presence_bytes}
use Rattle.tree.specs.Schemas.{Schema, as_column, columns_of, child_number}

-- The length in front of a field: one byte or four, low byte first.
pub record LengthOf (c : Column) (body prefix : Bytes) : Type 0 where
  pub size : length prefix ≡ prefix_size c
  pub says : value_of prefix ≡ length body

-- One field. Fixed types take their width. A field of variable length is a length and so many bytes; the length may reach the maximum
-- (wide text: twice the maximum, and even).
pub data Field (c : Column) : Bytes → Type 0 where
  fixed_field : {body : Bytes} → is_variable c ≡ false → length body ≡ width c → Field c body
  variable_field : {prefix body : Bytes} → kind c ≡ Variable → LengthOf c body prefix → length body ≤ c.maximum → Field c (prefix ++ body)
  wide_field : {prefix body : Bytes} → kind c ≡ Wide → LengthOf c body prefix → length body ≤ 2 * c.maximum → length body % 2 ≡ 0 → Field c (prefix ++ body)

-- A field for each of the columns, in order.
pub data Fields : List Column → Bytes → Type 0 where
  no_fields : Fields [] []
  a_field : {c : Column} {cs : List Column} {x y : Bytes} → Field c x → Fields cs y → Fields (c ∷ cs) (x ++ y)

-- The bits of a byte and of a map, from the top bit of the first byte downward.
unfoldable pub byte_bits : ℕ → List Bool
byte_bits b =
    eqb (b / 128 % 2) 1 ∷ eqb (b / 64 % 2) 1 ∷ eqb (b / 32 % 2) 1 ∷ eqb (b / 16 % 2) 1 ∷ eqb (b / 8 % 2) 1 ∷ eqb (b / 4 % 2) 1 ∷ eqb (b / 2 % 2) 1 ∷ eqb (b / 1 % 2) 1
    ∷ []

unfoldable pub bits : Bytes → List Bool
bits [] = []
bits (b ∷ bs) = byte_bits b ++ bits bs

-- Present columns bits those: with these bits, one for each nullable column, those of the columns are present.
-- What is left of the bits is reserved, and free. A chapter has no field, and its bit, if any, is 0.
pub data Present : List Column → List Bool → List Column → Type 0 where
  no_column_lem : {reserved : List Bool} → Present [] reserved []
  always : {c : Column} {cs ps : List Column} {bs : List Bool} → is_chapter c ≡ false → is_nullable c ≡ false → Present cs bs ps → Present (c ∷ cs) bs (c ∷ ps)
  set : {c : Column} {cs ps : List Column} {bs : List Bool} → is_chapter c ≡ false → is_nullable c ≡ true → Present cs bs ps → Present (c ∷ cs) (true ∷ bs) (c ∷ ps)
  unset : {c : Column} {cs ps : List Column} {bs : List Bool} → is_nullable c ≡ true → Present cs bs ps → Present (c ∷ cs) (false ∷ bs) ps
  a_chapter : {c : Column} {cs ps : List Column} {bs : List Bool} → is_chapter c ≡ true → is_nullable c ≡ false → Present cs bs ps → Present (c ∷ cs) bs ps

-- Original row data: the presence map, in as many bytes as needed, then the fields of the columns that are present.
pub data Original (columns : List Column) : Bytes → Type 0 where
  original : (presence : Bytes) {those : List Column} {fields : Bytes} → length presence ≡ presence_bytes columns → Present columns (bits presence) those → Fields those fields →
      Original columns (presence ++ fields)

-- Carried columns updates forces those: with these bits of the update map and of the force-null map, one of each for each column, those of
-- the columns have a field. Force 1 needs update 1 and a nullable column, and a chapter's bits are 0 in both: no rule has anything else.
pub data Carried : List Column → List Bool → List Bool → List Column → Type 0 where
  no_column_left : {reserved reserved' : List Bool} → Carried [] reserved reserved' []
  unchanged : {c : Column} {cs ps : List Column} {us fs : List Bool} → Carried cs us fs ps → Carried (c ∷ cs) (false ∷ us) (false ∷ fs) ps
  value : {c : Column} {cs ps : List Column} {us fs : List Bool} → is_chapter c ≡ false → Carried cs us fs ps → Carried (c ∷ cs) (true ∷ us) (false ∷ fs) (c ∷ ps)
  forced_null : {c : Column} {cs ps : List Column} {us fs : List Bool} → is_chapter c ≡ false → is_nullable c ≡ true → Carried cs us fs ps →
      Carried (c ∷ cs) (true ∷ us) (true ∷ fs) ps

-- Update row data: the update map, the force-null map, then the fields of the columns with update 1 and force 0.
pub data Update (columns : List Column) : Bytes → Type 0 where
  an_update_lem : (update force : Bytes) {those : List Column} {fields : Bytes} → length update ≡ map_bytes (length columns) → length force ≡ map_bytes (length columns) →
      Carried columns (bits update) (bits force) those → Fields those fields → Update columns (update ++ (force ++ fields))

-- Four bytes that say a child id.
pub record IdBytes (bytes : Bytes) (id : ℕ) : Type 0 where
  pub four : length bytes ≡ 4
  pub says : value_of bytes ≡ id

-- An element, as what it is made of.
pub data Element : Type 0 where
  parent_element : (row : Bytes) → Element
  child_element : (id : ℕ) (row : Bytes) → Element
  change_element : (id : ℕ) (update : Bytes) → Element
  delete_element : (id : ℕ) → Element

-- What stands directly before an element: an 87 element of this child id, or anything else (also nothing).
pub data Before : Type 0 where
  other : Before
  after : ℕ → Before

-- the columns of schema number k, as rows know them
abbrev pub columns_at : List Schema → ℕ → List Column
columns_at schemas k = map as_column (columns_of schemas k)

-- Split schemas before bytes elements: the rules split the bytes wholly into these elements, ending with the done token, where `before`
-- stands before them.
pub data Split (schemas : List Schema) : Before → Bytes → List Element → Type 0 where
  -- 0F ends the section and its input
  done : {before : Before} → Split schemas before (0x0F ∷ []) []
  -- 07, original row data under the top schema
  parent : {before : Before} {row rest : Bytes} {elements : List Element} → Original (columns_at schemas 0) row → Split schemas other rest elements →
      Split schemas before (0x07 ∷ (row ++ rest)) (parent_element row ∷ elements)
  -- 87, child id, original row data under the id's schema
  child : {before : Before} {id k : ℕ} {ids row rest : Bytes} {elements : List Element} → IdBytes ids id → child_number schemas id ≡ some k →
      Original (columns_at schemas k) row → Split schemas (after id) rest elements → Split schemas before (0x87 ∷ (ids ++ (row ++ rest))) (child_element id row ∷ elements)
  -- 8A, the id of the 87 element directly before, update row data under the id's schema
  change : {id k : ℕ} {ids row rest : Bytes} {elements : List Element} → IdBytes ids id → child_number schemas id ≡ some k → Update (columns_at schemas k) row →
      Split schemas other rest elements → Split schemas (after id) (0x8A ∷ (ids ++ (row ++ rest))) (change_element id row ∷ elements)
  -- 8C, the id of the 87 element directly before
  delete : {id : ℕ} {ids rest : Bytes} {elements : List Element} → IdBytes ids id → Split schemas other rest elements →
      Split schemas (after id) (0x8C ∷ (ids ++ rest)) (delete_element id ∷ elements)

-- An entry of the row table.
pub record Row : Type 0 where
  pub kind : ℕ
  pub id : ℕ
  pub original : ℕ
  pub update : ℕ

abbrev pub entry : ℕ → ℕ → ℕ → ℕ → Row
entry k i o u = record { kind = k; id = i; original = o; update = u }

-- The kind of an 87's row, by the element that follows it: 2 unchanged, 3 changed, 4 deleted.
unfoldable pub child_kind : List Element → ℕ
child_kind [] = 2
child_kind (parent_element row ∷ es) = 2
child_kind (child_element id row ∷ es) = 2
child_kind (change_element id update ∷ es) = 3
child_kind (delete_element id ∷ es) = 4

-- Where the update map of an 87's row starts, if the next element, which starts at `at`, is its 8A; else 0.
unfoldable pub update_start : ℕ → List Element → ℕ
update_start at [] = 0
update_start at (parent_element row ∷ es) = 0
update_start at (child_element id row ∷ es) = 0
update_start at (change_element id update ∷ es) = at + 5
update_start at (delete_element id ∷ es) = 0

-- The row table of elements of which the first starts at `at`. An 8A or 8C has no entry of its own: it and the 87 before it make one row.
unfoldable pub rows : ℕ → List Element → List Row
rows at [] = []
rows at (parent_element row ∷ es) = entry 1 0 (at + 1) 0 ∷ rows (at + 1 + length row) es
rows at (child_element id row ∷ es) =
    entry (child_kind es) id (at + 5) (update_start (at + 5 + length row) es) ∷ rows (at + 5 + length row) es
rows at (change_element id update ∷ es) = rows (at + 5 + length update) es
rows at (delete_element id ∷ es) = rows (at + 5) es
