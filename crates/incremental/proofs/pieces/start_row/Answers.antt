-- There are maps or none.
-- Assumes nothing.
use native.Mathlib.Omega.{arith}
use Rattle.incremental.specs.Steps.{schemas_of}
use Rattle.incremental.specs.Parts.{kind_told}
use Rattle.incremental.proofs.PieceLaws.{row_started}
use Rattle.incremental.proofs.pieces.start_row.Goals as goal

pub returns-in_default : goal.returns-in_default
returns-in_default c =
    rw (c.of_kind-row.ensures, c.plain.ensures)
    (row_started (schemas_of c.args.sheet.now) c.args.rows c.args.at (kind_told c.args.kind) c.maps_size.result c.maps_size.ensures.0 c.maps_size.ensures.1 (λ z. omega arith) (omega (arith, c.requires)))
