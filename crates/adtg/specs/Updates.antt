-- Promise: questions about update data and about a changed row, with the schema file and the schema number that say the columns.
-- Assumes nothing.
use Rattle.std.specs.Prelude.{ℕ}
use Rattle.wire.specs.declared.error.Input.TheVariants as input
use Rattle.wire.specs.Read.{Bytes, Read, about, sized}
use Rattle.walk.specs.Updates.{UpdateAnswer, look_update, update_end, Current, current}
use Rattle.adtg.specs.InSchema.{both, in_schema}

-- column k of update data
unfoldable pub look_update_in : (file : Bytes) (number : ℕ) (update : Bytes) (k : ℕ) → Read UpdateAnswer
look_update_in file number update k = in_schema file (about input.Update (sized update)) number (λ columns. look_update columns update k)

-- where the update data at `at` end
unfoldable pub update_end_in : (file : Bytes) (number : ℕ) (update : Bytes) (at : ℕ) → Read ℕ
update_end_in file number update at = in_schema file (about input.Update (sized update)) number (λ columns. about input.Update (update_end columns update at))

-- the sizes of a changed row's inputs: the update data's before the row's
abbrev pub sizes_of : (row update : Bytes) → Read (Unit {0})
sizes_of row update = both (about input.Update (sized update)) (about input.Row (sized row))

-- the current value of column k of a changed row
unfoldable pub current_in : (file : Bytes) (number : ℕ) (row update : Bytes) (k : ℕ) → Read Current
current_in file number row update k = in_schema file (sizes_of row update) number (λ columns. current columns row update k)
