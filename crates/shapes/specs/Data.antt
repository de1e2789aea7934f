-- Promise: the stops of row data of either kind: of update data where `update` says so, else of original row data.
-- Assumes nothing.
use Rattle.std.specs.Prelude.{ℕ, List, Bool, true, false, ltb, length}
use Rattle.column.specs.declared.column.Column.{Column}
use Rattle.column.specs.Columns.{is_nullable, is_stop}
use Rattle.column.specs.Stops.{Stop}
use Rattle.walk.specs.Presence.{one, nullables, presence_bytes, marks}
use Rattle.walk.specs.Updates.{numbered, update_bytes}
use Rattle.walk.specs.Leaps.{stops_from, tail_from, any_column}

-- the stops on the way over them
abbrev pub data_stops : (update : Bool) → List Column → List Stop
data_stops true cs = stops_from any_column any_column 0 (numbered 0 cs)
data_stops false cs = stops_from is_nullable is_stop 0 (marks 0 cs)

-- the bytes behind the last stop
abbrev pub data_tail : (update : Bool) → List Column → ℕ
data_tail true cs = 0
data_tail false cs = tail_from is_stop 0 (marks 0 cs)

-- the bytes of a map: the presence map, or one of the two of update data
abbrev pub data_map : (update : Bool) → List Column → ℕ
data_map true cs = update_bytes cs
data_map false cs = presence_bytes cs

-- 1 where some field is always there: original row data of which some column is not nullable
abbrev pub data_always : (update : Bool) → List Column → ℕ
data_always true cs = 0
data_always false cs = one (ltb (nullables cs) (length cs))
