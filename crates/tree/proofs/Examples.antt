-- Examples of document 01, and cases that catch usual mistakes. All of them compute.
-- Assumes nothing.
use Prim.Native.Nat.{ℕ}
use mathlib.Core.Path.{◌≡◌, refl}
use mathlib.Core.List.{List, [], ◌∷◌, map}
use mathlib.Core.Option.{some, none as nothing}
use lib.ListN.{get_or, replicate}
use Rattle.wire.specs.declared.error.Input.TheVariants.{Single}
use Rattle.wire.specs.Read.{Bytes, Read, ok, bad, check, sized_by, sized}
use Rattle.column.specs.Types.{types, kind_in, kind_of}
use Rattle.tree.specs.Numbers.{groups, all_groups, third_group, second_group, number_in}
use Rattle.tree.specs.Tree.{Tree, none, field, chapter, columns, column_numbers, numbers, encode, nested_counts, counts, chapters, member}
use Rattle.tree.specs.Reader.{read_number, read_range, read_fixed, read_variable, read_chapter, read_kind, read_column, read_columns, read_schema, ended, read_file, file_of}
use Rattle.tree.specs.Schemas.{entry, schema, own_columns, nested_schemas, schemas_of, number_from, child_number}
use Rattle.tree.specs.Table.{table_size, packed, block, lay_columns, lay_file}

-- A file, and what it is read as.
pub record Example : Type 0 where
  pub file : Bytes
  pub answer : Read Tree

abbrev example : Bytes → Read Tree → Example
example b r = record { file = b; answer = r }

-- an error of the one input
abbrev refused : ℕ → ℕ → Read Tree
refused code offset = bad code offset Single

-- sheet S of document 01: a four-byte integer; nullable wide text, 10; a nullable byte
abbrev pub S : Tree
S = field 0x03 0 0 (field 0x82 1 10 (field 0x11 1 0 none))

abbrev pub S-bytes : Bytes
S-bytes = 0x03 ∷ 0x03 ∷ 0x00 ∷ 0x82 ∷ 0x01 ∷ 0x01 ∷ 0x0A ∷ 0x11 ∷ 0x01 ∷ []

-- sheet T: a four-byte integer; chapter 7 with a byte
abbrev pub T : Tree
T = field 0x03 0 0 (chapter 0 7 (field 0x11 0 0 none) none)

abbrev pub T-bytes : Bytes
T-bytes = 0x02 ∷ 0x03 ∷ 0x00 ∷ 0x88 ∷ 0x01 ∷ 0x00 ∷ 0x07 ∷ 0x01 ∷ 0x11 ∷ 0x00 ∷ []

-- four depths, two schemas of one depth, numbers of one to three groups
abbrev pub N : Tree
N = chapter 0 1 (chapter 0 2 (chapter 1 3 (field 0x11 0 0 none) none) none) (chapter 0 0x4000 (field 0x80 0 32767 none) none)

abbrev pub N-bytes : Bytes
N-bytes =
    2 ∷ 0x88 ∷ 1 ∷ 0 ∷ 1 ∷ 1 ∷ 0x88 ∷ 1 ∷ 0 ∷ 2 ∷ 1 ∷ 0x88 ∷ 1 ∷ 1 ∷ 3 ∷ 1 ∷ 0x11 ∷ 0 ∷ 0x88 ∷ 1 ∷ 0 ∷ 0x80 ∷ 0x80 ∷ 1 ∷ 1 ∷ 0x80 ∷ 1 ∷ 0 ∷ 0xFF ∷ 0xFF ∷ 1 ∷ []

-- the starred examples of a sheet
abbrev pub starred : List Example
starred = example S-bytes (ok S) ∷ example (0x83 ∷ 0x00 ∷ []) (refused 5 0) ∷ []

-- others: depth before the count is read, a repeated id, no columns, a byte behind, an unknown code before its flags, a
-- count over 64, a number too long though it is cut off
abbrev pub others : List Example
others =
    example T-bytes (ok T)
    ∷ example N-bytes (ok N)
    ∷ example (1 ∷ 0x88 ∷ 1 ∷ 0 ∷ 1 ∷ 1 ∷ 0x88 ∷ 1 ∷ 0 ∷ 2 ∷ 1 ∷ 0x88 ∷ 1 ∷ 0 ∷ 3 ∷ 1 ∷ 0x88 ∷ 1 ∷ 0 ∷ 4 ∷ []) (refused 7 20)
    ∷ example (1 ∷ 0x88 ∷ 1 ∷ 0 ∷ 7 ∷ 1 ∷ 0x88 ∷ 1 ∷ 0 ∷ 7 ∷ []) (refused 8 9)
    ∷ example (0 ∷ []) (refused 6 0)
    ∷ example [] (refused 1 0)
    ∷ example (1 ∷ 0x11 ∷ 0 ∷ 0x11 ∷ []) (refused 15 3)
    ∷ example (1 ∷ 0x87 ∷ 1 ∷ 2 ∷ []) (refused 6 1)
    ∷ example (65 ∷ []) (refused 6 0)
    ∷ example (0x80 ∷ 0x80 ∷ 0x80 ∷ []) (refused 5 0)
    ∷ example (0x80 ∷ 0x80 ∷ []) (refused 1 2)
    ∷ []

-- Every example is read so.
abbrev pub Hold : List Example → Type 0
Hold es = map (λ e. file_of e.file) es ≡ map (λ e. e.answer) es

pub starred_hold : Hold starred
unfolding check sized_by sized types kind_in kind_of third_group second_group number_in member read_number read_range read_fixed read_variable
    read_chapter read_kind read_column read_columns read_schema ended read_file file_of
starred_hold = refl

pub others_hold : Hold others
unfolding check sized_by sized types kind_in kind_of third_group second_group number_in member read_number read_range read_fixed read_variable
    read_chapter read_kind read_column read_columns read_schema ended read_file file_of
others_hold = refl

-- S, T and N are written so.
pub written : map encode (S ∷ T ∷ N ∷ []) ≡ S-bytes ∷ T-bytes ∷ N-bytes ∷ []
unfolding types kind_in kind_of columns column_numbers numbers groups all_groups encode
written = refl

-- The schemas of T and N, by their numbers: each starts behind the one that it is nested in.
pub numbered :
    map schemas_of (T ∷ N ∷ [])
    ≡ (schema 0 (entry 0x03 0 0 0 ∷ entry 0x88 0 0 7 ∷ []) ∷ schema 7 (entry 0x11 0 0 0 ∷ []) ∷ [])
    ∷ (schema 0 (entry 0x88 0 0 1 ∷ entry 0x88 0 0 0x4000 ∷ [])
    ∷ schema 1 (entry 0x88 0 0 2 ∷ [])
    ∷ schema 2 (entry 0x88 1 0 3 ∷ [])
    ∷ schema 3 (entry 0x11 0 0 0 ∷ [])
    ∷ schema 0x4000 (entry 0x80 0 32767 0 ∷ [])
    ∷ [])
    ∷ []
unfolding own_columns nested_schemas schemas_of
numbered = refl

-- N's schema with id 2 has number 2, the one with id 16,384 number 4, and none has id 0.
pub children : map (child_number (schemas_of N)) (2 ∷ 0x4000 ∷ 0 ∷ []) ≡ some 2 ∷ some 4 ∷ nothing ∷ []
unfolding own_columns nested_schemas schemas_of number_from child_number
children = refl

-- T in a table: two columns and one in the first three slots, two schemas behind the slots of columns.
pub laid :
    map (λ (i : ℕ). get_or (lay_file T (replicate table_size 0)) i 0) (0 ∷ 1 ∷ 2 ∷ 3 ∷ 256 ∷ 257 ∷ 258 ∷ [])
    ≡ packed 0x03 0 0 0 ∷ packed 0x88 0 0 7 ∷ packed 0x11 0 0 0 ∷ 0 ∷ block 0 2 0 ∷ block 2 1 7 ∷ 0 ∷ []
unfolding columns nested_counts counts chapters lay_columns
laid = refl
