-- Promise: questions about a row, with the schema file and the schema number that say its columns.
-- Assumes nothing.
use Rattle.std.specs.Prelude.{ℕ}
use Rattle.wire.specs.declared.error.Input.TheVariants as input
use Rattle.wire.specs.Read.{Bytes, Read, about, sized}
use Rattle.walk.specs.Rows.{Answer, look_up, field_count, row_end}
use Rattle.adtg.specs.InSchema.{in_schema}

-- column k of a row
unfoldable pub look_up_in : (file : Bytes) (number : ℕ) (row : Bytes) (k : ℕ) → Read Answer
look_up_in file number row k = in_schema file (about input.Row (sized row)) number (λ columns. look_up columns row k)

-- the number of fields of a row
unfoldable pub field_count_in : (file : Bytes) (number : ℕ) (row : Bytes) → Read ℕ
field_count_in file number row = in_schema file (about input.Row (sized row)) number (λ columns. field_count columns row)

-- where the row at `at` ends
unfoldable pub row_end_in : (file : Bytes) (number : ℕ) (row : Bytes) (at : ℕ) → Read ℕ
row_end_in file number row at = in_schema file (about input.Row (sized row)) number (λ columns. about input.Row (row_end columns row at))
