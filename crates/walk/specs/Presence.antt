-- Promise: presence (document 01, "Rows"): the bits that columns have in a map, and which columns a row has a field of.
-- A map is given as the bytes from its start on; what stands behind it is never asked for.
-- Assumes nothing.
use Rattle.std.specs.Prelude.{ℕ, ◌+◌, ◌/◌, List, [], ◌∷◌, Bool, true, false, not, take, get_or}
use Rattle.wire.specs.Read.{Bytes, Read, ok, ◌>>=◌, pick, check}
use Rattle.wire.specs.Bits.{bit_set, map_bytes}
use Rattle.column.specs.declared.column.Column.{Column}
use Rattle.column.specs.Columns.{is_chapter, is_nullable}
use Rattle.column.specs.Layout.{blank_column}

-- what stands for the column at a number past the last
abbrev pub no_column : Column
no_column = blank_column

abbrev pub one : Bool → ℕ
one true = 1
one false = 0

-- how many of the columns are nullable
unfoldable pub nullables : List Column → ℕ
nullables [] = 0
nullables (c ∷ cs) = one (is_nullable c) + nullables cs

-- the bytes of the presence map, which has one bit per nullable column
unfoldable pub presence_bytes : List Column → ℕ
presence_bytes cs = map_bytes (nullables cs)

-- A column with the number of its bit in a map.
pub record Mark : Type 0 where
  pub column : Column
  pub bit : ℕ

abbrev pub mark : Column → ℕ → Mark
mark c b = record { column = c; bit = b }

-- Each column with its bit in the presence map, from bit b on. A column that is not nullable has none, and its number is not used.
unfoldable pub marks : ℕ → List Column → List Mark
marks b [] = []
marks b (c ∷ cs) = mark c b ∷ marks (b + one (is_nullable c)) cs

-- the bit of column i: as many as there are nullable columns before it
unfoldable pub bit_of : List Column → ℕ → ℕ
bit_of cs i = nullables (take i cs)

-- column i with its bit
abbrev pub mark_of : List Column → ℕ → Mark
mark_of cs i = mark (get_or cs i no_column) (bit_of cs i)

-- By the presence map a column has a field: it is no chapter, and not nullable or its bit is set.
unfoldable pub present : Bytes → Mark → Bool
present map m = pick (is_chapter m.column) false (pick (is_nullable m.column) (bit_set map m.bit) true)

-- the bit of a nullable chapter is set in the presence map, which must not be
unfoldable pub chapter_present : Bytes → Mark → Bool
chapter_present map m = pick (is_chapter m.column) (pick (is_nullable m.column) (bit_set map m.bit) false) false

-- No mark breaks a rule in the map at `at`; else this error, at the map byte of the first that does.
unfoldable pub clear : (broken : Mark → Bool) (code at : ℕ) → List Mark → Read (Unit {0})
clear broken code at [] = ok tt
clear broken code at (m ∷ ms) = do
  _ ← check (not (broken m)) code (at + m.bit / 8)
  clear broken code at ms

-- how many marks pass a test
unfoldable pub count : (Mark → Bool) → List Mark → ℕ
count test [] = 0
count test (m ∷ ms) = one (test m) + count test ms

-- Inner.

-- a mark that stands for none
abbrev pub no_mark : Mark
no_mark = mark no_column 0
