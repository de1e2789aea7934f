-- Promise: rows written with the schema file and the schema number that say their columns.
-- Assumes nothing.
use Rattle.std.specs.Prelude.{ℕ, List}
use Rattle.wire.specs.declared.error.Input.TheVariants as input
use Rattle.wire.specs.Read.{Bytes, Read, about, sized}
use Rattle.encode.specs.Writers.{write_original, write_update}
use Rattle.adtg.specs.InSchema.{in_schema}

-- an original row from these entries and values, for an output of this size from a place on
unfoldable pub write_original_in : (file : Bytes) (number : ℕ) (entries : List ℕ) (values : Bytes) (size place : ℕ) → Read Bytes
write_original_in file number entries values size place =
    in_schema file (about input.Values (sized values)) number (λ columns. write_original columns entries values size place)

-- update data
unfoldable pub write_update_in : (file : Bytes) (number : ℕ) (entries : List ℕ) (values : Bytes) (size place : ℕ) → Read Bytes
write_update_in file number entries values size place =
    in_schema file (about input.Values (sized values)) number (λ columns. write_update columns entries values size place)
