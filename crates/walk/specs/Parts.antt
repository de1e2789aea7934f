-- Promise: the bytes of what a look-up finds, as a part of the caller's rows (document 01, "Looking up a field").
-- Assumes nothing.
use Rattle.std.specs.Prelude.{◌-◌, []}
use Rattle.wire.specs.Read.{Bytes, Read, ok, bad, cut}
use Rattle.column.specs.declared.field.Field.{Field}
use Rattle.walk.specs.Rows.{Answer, field, null, chapter}
use Rattle.walk.specs.Updates.{Current, updated, forced, original}

-- a field's bytes
abbrev pub field_part : Bytes → Field → Bytes
field_part row f = cut row f.start (f.end - f.start)

-- the part of the row that a look-up finds; empty where it finds none
unfoldable pub part_of : Bytes → Read Answer → Bytes
part_of row (ok (field f)) = field_part row f
part_of row (ok null) = []
part_of row (ok chapter) = []
part_of row (bad code offset about) = []

-- the part of the update data or of the row that holds the current value
unfoldable pub current_part : (row update : Bytes) → Read Current → Bytes
current_part row update (ok (updated f)) = field_part update f
current_part row update (ok forced) = []
current_part row update (ok (original a)) = part_of row (ok a)
current_part row update (bad code offset about) = []
