-- Promise: the numbers of a plan: how the parts of a column share one number, and where each number stands.
-- Assumes nothing.
use Rattle.std.specs.Prelude.{ℕ, ◌+◌, ◌*◌, ◌/◌, ◌%◌, List, [], ◌∷◌, ◌++◌}
use Rattle.column.specs.declared.column.Column.{Column}
use Rattle.column.specs.Columns.{width}
use Rattle.column.specs.Layout.{most_columns, padded}
use Rattle.column.specs.Packed.{packed_column}

-- A column in one number: the column itself in the low 32 bits, its gap (12 bits), its bit in the presence map (6), how many stops stand
-- before it (6), its width (8).
unfoldable pub packed : Column → (gap bit before : ℕ) → ℕ
packed c gap bit before =
    packed_column c + 4294967296 * gap + 17592186044416 * bit + 1125899906842624 * before + 72057594037927936 * width c

-- and its parts again, behind the column itself
abbrev pub gap_in : ℕ → ℕ
gap_in n = n / 4294967296 % 4096

abbrev pub bit_in : ℕ → ℕ
bit_in n = n / 17592186044416 % 64

abbrev pub before_in : ℕ → ℕ
before_in n = n / 1125899906842624 % 64

abbrev pub width_in : ℕ → ℕ
width_in n = n / 72057594037927936

-- How many columns there are, and the number of the first stop.
unfoldable pub counted : (count first : ℕ) → ℕ
counted count first = count + 256 * first

-- and its parts again
abbrev pub count_in : ℕ → ℕ
count_in n = n % 256

abbrev pub first_in : ℕ → ℕ
first_in n = n / 256

-- All numbers: one for each column, one for each stop; then three: the counts, the bytes of the presence map, the bits of the nullable
-- chapters.
unfoldable pub laid : (columns stops : List ℕ) → (counts map chapters : ℕ) → List ℕ
laid columns stops counts map chapters =
    padded most_columns columns ++ (padded most_columns stops ++ (counts ∷ map ∷ chapters ∷ []))
