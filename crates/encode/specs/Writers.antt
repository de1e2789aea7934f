-- Promise: the two row writers: their checks in the paper's order, the row, and what the output then holds.
-- Assumes nothing.
use Rattle.std.specs.Prelude.{ℕ, suc, ◌*◌, ◌-◌, ◌^◌, ◌≡◌, List, [], ◌∷◌, Bool, true, false, length, leb, ltb, eqb, Result}
use Rattle.wire.specs.declared.error.Error.{Error}
use Rattle.wire.specs.declared.error.Input.TheVariants as input
use Rattle.wire.specs.Read.{Bytes, Read, ok, bad, ◌>>=◌, pick, check, about, sized, told}
use Rattle.wire.specs.Output.{put, size_of, fitting}
use Rattle.column.specs.declared.column.Column.{Column}
use Rattle.column.specs.Columns.{width, is_variable, is_chapter, is_nullable, prefix_size, length_error}
use Rattle.encode.specs.Entries.{Entry, value, null, unchanged, givens_from, are_entries, entries_of}
use Rattle.encode.specs.Encoding.{original_bytes, update_data}

-- A value of so many bytes can stand in a column: a chapter has none; a fixed type takes its width; a length must be one that
-- the reader allows and that the prefix can say.
unfoldable pub length_stands : Column → ℕ → Bool
length_stands c n =
    pick (is_chapter c) false
    (pick (is_variable c) (pick (eqb (length_error c n) 0) (ltb n (256 ^ prefix_size c)) false) (eqb n (width c)))

-- An entry can stand in a column of an original row: a value that fits, null where it may be null, null for a chapter.
unfoldable pub in_original : Column → Entry → Bool
in_original c (value v) = length_stands c (length v)
in_original c null = pick (is_chapter c) true (is_nullable c)
in_original c unchanged = false

-- An entry can stand in a column of update data: a value that fits, null where it may be null, a chapter unchanged only.
unfoldable pub in_update : Column → Entry → Bool
in_update c (value v) = length_stands c (length v)
in_update c null = pick (is_chapter c) false (is_nullable c)
in_update c unchanged = true

-- each entry can stand in its column, from column k on: else error 20 at the first column whose entry can't
unfoldable pub entries_stand : (Column → Entry → Bool) → ℕ → List Column → List Entry → Read (Unit {0})
entries_stand stands k [] es = ok tt
entries_stand stands k (c ∷ cs) [] = ok tt
entries_stand stands k (c ∷ cs) (e ∷ es) = do
  _ ← check (stands c e) 20 k
  entries_stand stands (suc k) cs es

-- the entries that the numbers give, one for each of n columns
abbrev pub entries_in : ℕ → List ℕ → Bytes → List Entry
entries_in n numbers values = entries_of values (givens_from n 0 numbers)

-- Writing with values of allowed size, by which entries can stand and what the row is: the place lies in the output (18), there is
-- one entry a column and each is one (18), each can stand in its column (20), the row fits behind the place (16).
unfoldable pub writing :
    (Column → Entry → Bool) → (List Column → List Entry → Bytes) → List Column → (numbers : List ℕ) → (values : Bytes) → (size place : ℕ) → Read Bytes
writing stands encode columns numbers values size place = do
  _ ← about input.Place (check (leb place size) 18 0)
  _ ← about input.Entries (check (eqb (length numbers) (3 * length columns)) 18 0)
  _ ← about input.Entries (check (are_entries values (givens_from (length columns) 0 numbers)) 18 0)
  _ ← about input.Entries (entries_stand stands 0 columns (entries_in (length columns) numbers values))
  fitting (encode columns (entries_in (length columns) numbers values)) (size - place)

-- the row that the writer of original rows writes, or the error
unfoldable pub write_original : List Column → (numbers : List ℕ) → (values : Bytes) → (size place : ℕ) → Read Bytes
write_original columns numbers values size place = writing in_original original_bytes columns numbers values size place

-- the update data that their writer writes, or the error
unfoldable pub write_update : List Column → (numbers : List ℕ) → (values : Bytes) → (size place : ℕ) → Read Bytes
write_update columns numbers values size place = writing in_update update_data columns numbers values size place

-- a writer with any values: their size first (19)
unfoldable pub values_sized : Bytes → Read Bytes → Read Bytes
values_sized values written = do
  _ ← about input.Values (sized values)
  written

-- the output after a writer: the row from the place on, all else as it was; after an error all as it was
unfoldable pub output_with : Read Bytes → ℕ → Bytes → Bytes
output_with (ok row) place out = put out place row
output_with (bad code offset about) place out = out

-- What a row writer promises: the size of the row or the error, and what the output then holds.
pub record WroteAt (row : Read Bytes) (place : ℕ) (entry exit : Bytes) (answer : Result ℕ Error) : Type 0 where
  pub answers : told answer ≡ size_of row
  pub leaves : exit ≡ output_with row place entry
