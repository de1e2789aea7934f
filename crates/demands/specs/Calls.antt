-- Promise: demand 1, call by call: the checks of calls with a schema file, in the order of document 01.
-- Assumes nothing.
use Rattle.std.specs.Prelude.{ℕ, length}
use Rattle.wire.specs.declared.error.Input.TheVariants as input
use Rattle.wire.specs.Read.{Bytes}
use Rattle.demands.specs.Checks.{Refusals, ◌then◌, Of, Missing}
use Rattle.demands.specs.FileFaults.{FileFault, schemas_in}

-- behind the sizes: the file's own faults
abbrev pub WithFile : Bytes → Refusals → Refusals
WithFile file rest = Of input.Schema (FileFault file) then rest

-- the file's own faults, and the schema number (18)
abbrev pub InFile : Bytes → ℕ → Refusals
InFile file number = WithFile file (Of input.SchemaNumber (Missing (length (schemas_in file)) number))

-- then the rest
abbrev pub InSchema : Bytes → ℕ → Refusals → Refusals
InSchema file number rest = WithFile file (Of input.SchemaNumber (Missing (length (schemas_in file)) number) then rest)
