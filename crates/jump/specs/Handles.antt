-- Promise: row handles (document 01, "Looking up a field"): a row that was opened once, kept with the place where its data start. A look-up
-- through a handle is that in its row (`planned_row`).
-- Assumes nothing.
use Rattle.std.specs.Prelude.{ℕ, Option, Some, None}
use Rattle.wire.specs.declared.error.Input.TheVariants as input
use Rattle.wire.specs.Read.{Bytes, Read, ok, bad, ◌>>=◌, about, sized}
use Rattle.plan.specs.declared.plan.Plan.{Plan}
use Rattle.jump.specs.Jumps.{planned_open}

-- Opening a row for a handle: its size (19), its map (1), its chapters' bits (12). Where its data start.
unfoldable pub opened_row : Plan → Bytes → Read ℕ
opened_row p row = do
  _ ← about input.Row (sized row)
  about input.Row (planned_open p row)

-- the start that a handle keeps: where the data start, of a row that opens
abbrev pub start_of : Read ℕ → Option ℕ
start_of (ok start) = Some start
start_of (bad code offset about) = None
