-- Sections and what document 01 says of them: its examples under S and T, and cases that catch likely errors. All of them compute.
-- Assumes nothing.
use Prim.Native.Nat.{ℕ}
use mathlib.Core.Path.{◌≡◌, refl}
use mathlib.Core.List.{List, [], ◌∷◌, ◌++◌, map}
use Rattle.wire.specs.declared.error.Input.TheVariants.{Single}
use Rattle.wire.specs.Read.{Bytes, Read, ok, bad, ◌>>=◌, check, sized_by, sized, whole}
use Rattle.wire.specs.Integers.{value_of, int_at, read_int}
use Rattle.wire.specs.Bits.{bit_at, bit_set, map_bytes}
use Rattle.column.specs.Types.{types, kind_in, kind_of}
use Rattle.column.specs.Columns.{is_nullable, prefix_size, greatest, length_error_of, length_error}
use Rattle.column.specs.Fields.{allowed, bytes_at, variable_at, field_at}
use Rattle.tree.specs.Numbers.{third_group, second_group, number_in}
use Rattle.tree.specs.Tree.{member}
use Rattle.tree.specs.Reader.{read_number, read_range, read_fixed, read_variable, read_chapter, read_kind, read_column, read_columns, read_schema, ended, read_file, file_of}
use Rattle.tree.specs.Schemas.{Schema, schema, own_columns, nested_schemas, schemas_of, read_schemas, columns_of, number_from, child_number}
use Rattle.tree.specs.Schemas as S
use Rattle.walk.specs.Presence.{nullables, presence_bytes, marks, present, chapter_present, clear}
use Rattle.walk.specs.Rows.{step, walk, opened, walked, row_end}
use Rattle.walk.specs.Updates.{numbered, update_bytes, chapter_marked, force_broken, carried, carried_in, update_opened, update_walked, update_end}
use Rattle.grammar.specs.Grammar.{Element, parent_element, child_element, change_element, other, Split, Row, entry, child_kind, update_start, rows}
use Rattle.grammar.specs.Reader.{token_of, known_child, element, scan, elements, section}
use Rattle.grammar.proofs.Demand.{accepted_iff_split}

-- a schema file, a section, and what reading it answers
pub record Example : Type 0 where
  pub file : Bytes
  pub input : Bytes
  pub answer : Read (List Row)

abbrev rows_of : Bytes → Bytes → List Row → Example
rows_of f s rs = record { file = f; input = s; answer = ok rs }

abbrev refused : Bytes → Bytes → ℕ → ℕ → Example
refused f s code offset = record { file = f; input = s; answer = bad code offset Single }

-- sheet S of document 01: a four-byte integer; nullable wide text, 10; a nullable byte
abbrev pub S-file : Bytes
S-file = 0x03 ∷ 0x03 ∷ 0x00 ∷ 0x82 ∷ 0x01 ∷ 0x01 ∷ 0x0A ∷ 0x11 ∷ 0x01 ∷ []

-- sheet T: a four-byte integer; chapter 7 with a byte
abbrev pub T-file : Bytes
T-file = 0x02 ∷ 0x03 ∷ 0x00 ∷ 0x88 ∷ 0x01 ∷ 0x00 ∷ 0x07 ∷ 0x01 ∷ 0x11 ∷ 0x00 ∷ []

-- T's section with this id and these maps in its 8A
abbrev pub section_with : ℕ → ℕ → ℕ → Bytes
section_with id update force =
    0x07 ∷ 0x05 ∷ 0x00 ∷ 0x00 ∷ 0x00 ∷ 0x87 ∷ 0x07 ∷ 0x00 ∷ 0x00 ∷ 0x00 ∷ 0x2A ∷ 0x8A ∷ id ∷ 0x00 ∷ 0x00 ∷ 0x00 ∷ update ∷ force ∷ 0x2B ∷ 0x0F ∷ []

abbrev pub T-section : Bytes
T-section = section_with 7 0x80 0x00

abbrev pub T-rows : List Row
T-rows = entry 1 0 1 0 ∷ entry 3 7 10 16 ∷ []

-- the starred examples of a section
abbrev pub starred : List Example
starred =
    rows_of S-file (0x0F ∷ []) []
    ∷ refused S-file (0x0F ∷ 0x0F ∷ []) 15 1
    ∷ rows_of T-file T-section T-rows
    ∷ refused T-file (section_with 8 0x80 0x00) 11 11
    ∷ refused T-file (section_with 7 0x00 0x80) 13 17
    ∷ []

-- chapters 7 and 8 with a byte each
abbrev two : Bytes
two = 2 ∷ 0x88 ∷ 1 ∷ 0 ∷ 7 ∷ 1 ∷ 0x11 ∷ 0 ∷ 0x88 ∷ 1 ∷ 0 ∷ 8 ∷ 1 ∷ 0x11 ∷ 0 ∷ []

-- a byte; chapter 7 with a byte, a nullable chapter 9 and nullable wide text, 10
abbrev deep : Bytes
deep = 2 ∷ 0x11 ∷ 0 ∷ 0x88 ∷ 1 ∷ 0 ∷ 7 ∷ 3 ∷ 0x11 ∷ 0 ∷ 0x88 ∷ 1 ∷ 1 ∷ 9 ∷ 1 ∷ 0x11 ∷ 0 ∷ 0x82 ∷ 1 ∷ 1 ∷ 10 ∷ []

-- chapters only: a row of no bytes
abbrev bare : Bytes
bare = 1 ∷ 0x88 ∷ 1 ∷ 0 ∷ 7 ∷ 1 ∷ 0x11 ∷ 0 ∷ []

-- under `deep`, an 87 element with the text "h", then this
abbrev child_then : Bytes → Bytes
child_then rest = 0x87 ∷ 7 ∷ 0 ∷ 0 ∷ 0 ∷ 0x40 ∷ 0x2A ∷ 2 ∷ 0x68 ∷ 0 ∷ rest

-- and an 8A with this
abbrev change_with : Bytes → Bytes
change_with update = child_then (0x8A ∷ 7 ∷ 0 ∷ 0 ∷ 0 ∷ update)

-- No byte, a cut id, an id that is cut before it is paired, tokens and ids that are not known, an 8A after another table's 87, after an
-- 8A and alone, an 8C alone; lengths; bits of chapters, the maps before them; the force rule; reserved bits; a row of each kind.
abbrev pub cases : List Example
cases =
    refused S-file [] 1 0
    ∷ refused T-file (0x87 ∷ 7 ∷ 0 ∷ 0 ∷ 0 ∷ 0x2A ∷ 0x8A ∷ 7 ∷ 0 ∷ []) 1 9
    ∷ refused T-file (0x8A ∷ []) 1 1
    ∷ refused T-file (0x08 ∷ []) 9 0
    ∷ refused T-file (0x8D ∷ []) 9 0
    ∷ refused T-file (0x87 ∷ 8 ∷ 0 ∷ 0 ∷ 0 ∷ []) 10 0
    ∷ refused T-file (0x87 ∷ 0 ∷ 0 ∷ 0 ∷ 0 ∷ []) 10 0
    ∷ refused two
    (0x87 ∷ 7 ∷ 0 ∷ 0 ∷ 0 ∷ 0x2A ∷ 0x87 ∷ 8 ∷ 0 ∷ 0 ∷ 0 ∷ 0x2B ∷ 0x8A ∷ 7 ∷ 0 ∷ 0 ∷ 0 ∷ 0x80 ∷ 0x00 ∷ 0x2C ∷ 0x0F ∷ []) 11 12
    ∷ refused deep (change_with (0x20 ∷ 0x20 ∷ 0x8A ∷ 7 ∷ 0 ∷ 0 ∷ 0 ∷ [])) 11 17
    ∷ refused deep (0x07 ∷ 1 ∷ 0x8A ∷ 7 ∷ 0 ∷ 0 ∷ 0 ∷ []) 11 2
    ∷ refused deep (0x8C ∷ 7 ∷ 0 ∷ 0 ∷ 0 ∷ []) 11 0
    ∷ refused S-file (0x07 ∷ 0xC0 ∷ 5 ∷ 0 ∷ 0 ∷ 0 ∷ 3 ∷ []) 14 6
    ∷ refused S-file (0x07 ∷ 0x80 ∷ 5 ∷ 0 ∷ 0 ∷ 0 ∷ 20 ∷ []) 1 7
    ∷ refused S-file (0x07 ∷ 0x80 ∷ 5 ∷ 0 ∷ 0 ∷ 0 ∷ 22 ∷ []) 14 6
    ∷ refused deep (0x87 ∷ 7 ∷ 0 ∷ 0 ∷ 0 ∷ 0x80 ∷ []) 12 5
    ∷ refused deep (change_with (0x40 ∷ 0x40 ∷ [])) 12 15
    ∷ refused deep (change_with (0x00 ∷ 0x40 ∷ [])) 12 16
    ∷ refused deep (change_with (0x40 ∷ [])) 1 16
    ∷ refused deep (change_with (0x80 ∷ 0x80 ∷ [])) 13 16
    ∷ rows_of deep (change_with (0x20 ∷ 0x20 ∷ 0x0F ∷ [])) (entry 3 7 5 15 ∷ [])
    ∷ rows_of deep (change_with (0xBF ∷ 0x1F ∷ 0x2B ∷ 0 ∷ 0x0F ∷ [])) (entry 3 7 5 15 ∷ [])
    ∷ rows_of deep (child_then (0x8C ∷ 7 ∷ 0 ∷ 0 ∷ 0 ∷ 0x07 ∷ 1 ∷ 0x0F ∷ [])) (entry 4 7 5 0 ∷ entry 1 0 16 0 ∷ [])
    ∷ rows_of deep (0x87 ∷ 9 ∷ 0 ∷ 0 ∷ 0 ∷ 0x2A ∷ 0x87 ∷ 9 ∷ 0 ∷ 0 ∷ 0 ∷ 0x2B ∷ 0x0F ∷ []) (entry 2 9 5 0 ∷ entry 2 9 11 0 ∷ [])
    ∷ rows_of bare (0x07 ∷ 0x07 ∷ 0x0F ∷ []) (entry 1 0 1 0 ∷ entry 1 0 2 0 ∷ [])
    ∷ []

-- the schemas of the file, and the section under them
abbrev pub answer_to : Example → Read (List Row)
answer_to e = read_schemas e.file >>= (λ S. section S e.input)

pub examples_hold : map answer_to (starred ++ cases) ≡ map (λ (e : Example). e.answer) (starred ++ cases)
unfolding check sized_by sized whole value_of int_at read_int bit_at bit_set map_bytes types kind_in kind_of is_nullable prefix_size greatest length_error_of length_error allowed bytes_at variable_at field_at third_group second_group number_in member read_number read_range read_fixed read_variable read_chapter read_kind read_column read_columns read_schema ended read_file file_of own_columns nested_schemas schemas_of read_schemas columns_of number_from child_number nullables presence_bytes marks present chapter_present clear step walk opened walked row_end numbered update_bytes chapter_marked force_broken carried carried_in update_opened update_walked update_end child_kind update_start rows token_of known_child element scan elements section
examples_hold = refl

-- The theorems are not empty: T's section has a split.

abbrev pub T-schemas : List Schema
T-schemas = schema 0 (S.entry 0x03 0 0 0 ∷ S.entry 0x88 0 0 7 ∷ []) ∷ schema 7 (S.entry 0x11 0 0 0 ∷ []) ∷ []

abbrev pub T-elements : List Element
T-elements =
    parent_element (0x05 ∷ 0x00 ∷ 0x00 ∷ 0x00 ∷ []) ∷ child_element 7 (0x2A ∷ []) ∷ change_element 7 (0x80 ∷ 0x00 ∷ 0x2B ∷ []) ∷ []

T-accepted : elements T-schemas T-section ≡ ok T-elements
unfolding check whole value_of int_at read_int bit_at bit_set map_bytes types kind_in kind_of is_nullable prefix_size greatest length_error_of length_error allowed bytes_at variable_at field_at columns_of number_from child_number nullables presence_bytes marks present chapter_present clear step walk opened walked row_end numbered update_bytes chapter_marked force_broken carried carried_in update_opened update_walked update_end token_of known_child element scan elements
T-accepted = refl

pub T-splits : Split T-schemas other T-section T-elements
T-splits = (accepted_iff_split T-schemas T-section T-elements).0 T-accepted
