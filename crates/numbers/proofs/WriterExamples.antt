-- Examples of the writer: values before room, places in the bytes, numbers over three groups. All of them compute.
-- Assumes nothing.
use Prim.Native.Nat.{ℕ}
use mathlib.Core.Path.{◌≡◌, refl}
use mathlib.Core.List.{List, [], ◌∷◌, map}
use Rattle.wire.specs.declared.error.Input.TheVariants.{Numbers, Output}
use Rattle.wire.specs.Read.{ok, bad, check, about, sized_by}
use Rattle.wire.specs.Output.{fitting}
use Rattle.column.specs.Types.{types, kind_in, kind_of}
use Rattle.tree.specs.Numbers.{groups, third_group, second_group, number_in}
use Rattle.tree.specs.Tree.{member}
use Rattle.tree.specs.Reader.{read_number, read_range, read_fixed, read_variable, read_chapter, read_kind, read_column, read_columns, read_schema, ended, read_file}
use Rattle.numbers.specs.Writer.{coded_number, coded, in_range, file_written}
use Rattle.tree.proofs.Examples.{S-bytes, N-bytes}

-- the numbers of sheet S of document 01, and those of a file with numbers of one to three groups
abbrev S-numbers : List ℕ
S-numbers = 3 ∷ 0x03 ∷ 0 ∷ 0x82 ∷ 1 ∷ 10 ∷ 0x11 ∷ 1 ∷ []

abbrev N-numbers : List ℕ
N-numbers =
    2 ∷ 0x88 ∷ 0 ∷ 1 ∷ 1 ∷ 0x88 ∷ 0 ∷ 2 ∷ 1 ∷ 0x88 ∷ 1 ∷ 3 ∷ 1 ∷ 0x11 ∷ 0 ∷ 0x88 ∷ 0 ∷ 0x4000 ∷ 1 ∷ 0x80 ∷ 0 ∷ 32767 ∷ []

-- Written with nine bytes of room: S; nothing, too few and too many numbers; a number over three groups as a count, as a
-- child id, behind the end; a repeated id; and N, which has no room.
pub written :
    map (λ (ns : List ℕ). file_written ns 9)
    (S-numbers
    ∷ []
    ∷ (1 ∷ 3 ∷ [])
    ∷ (1 ∷ 3 ∷ 0 ∷ 0 ∷ [])
    ∷ (0x200000 ∷ [])
    ∷ (1 ∷ 0x88 ∷ 0 ∷ 0x200000 ∷ [])
    ∷ (1 ∷ 3 ∷ 0 ∷ 0x200000 ∷ [])
    ∷ (1 ∷ 0x88 ∷ 0 ∷ 7 ∷ 1 ∷ 0x88 ∷ 0 ∷ 7 ∷ [])
    ∷ N-numbers
    ∷ [])
    ≡ ok S-bytes
    ∷ bad 1 0 Numbers
    ∷ bad 1 2 Numbers
    ∷ bad 15 3 Numbers
    ∷ bad 6 0 Numbers
    ∷ bad 6 4 Numbers
    ∷ bad 15 3 Numbers
    ∷ bad 8 9 Numbers
    ∷ bad 16 31 Output
    ∷ []
unfolding check about sized_by fitting types kind_in kind_of groups third_group second_group number_in member read_number read_range read_fixed read_variable read_chapter read_kind read_column read_columns read_schema ended read_file coded_number coded in_range file_written
written = refl

-- N has room in 31 bytes.
pub roomed : file_written N-numbers 31 ≡ ok N-bytes
unfolding check about sized_by fitting types kind_in kind_of groups third_group second_group number_in member read_number read_range read_fixed read_variable read_chapter read_kind read_column read_columns read_schema ended read_file coded_number coded in_range file_written
roomed = refl
