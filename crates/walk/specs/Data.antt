-- Promise: row data of either kind, column by column: update data where `update` says so, else original row data.
-- Assumes nothing.
use Rattle.std.specs.Prelude.{ℕ, ◌≡◌, List, Bool, true, false, get_or, drop}
use Rattle.wire.specs.Read.{Bytes, Read, ok, ◌>>=◌}
use Rattle.column.specs.declared.column.Column.{Column}
use Rattle.walk.specs.Presence.{Mark, no_mark, marks, present}
use Rattle.walk.specs.Rows.{place, step, opened, row_end}
use Rattle.walk.specs.Updates.{numbered, carried_in, update_opened, update_end}

-- where row data end
abbrev pub data_end : (update : Bool) → List Column → Bytes → ℕ → Read ℕ
data_end true cs s start = update_end cs s start
data_end false cs s start = row_end cs s start

-- they open: where their fields start
abbrev pub data_opened : (update : Bool) → List Column → Bytes → ℕ → Read ℕ
data_opened true cs s start = update_opened cs s start
data_opened false cs s start = opened cs s start

-- their columns, with their bits
abbrev pub data_marks : (update : Bool) → List Column → List Mark
data_marks true cs = numbered 0 cs
data_marks false cs = marks 0 cs

-- which of them have a field
abbrev pub data_has : (update : Bool) → List Column → Bytes → ℕ → Mark → Bool
data_has true cs s start = carried_in cs s start
data_has false cs s start = present (drop start s)

-- past column i, from a position
unfoldable pub data_passed : (update : Bool) → List Column → Bytes → (start i at : ℕ) → Read ℕ
data_passed update cs s start i at = do
  w ← step (data_has update cs s start) s (get_or (data_marks update cs) i no_mark) (place at 0)
  ok w.at

-- Inner.

-- column i has a field, or not
abbrev pub HasAt : (update : Bool) → List Column → Bytes → (start i : ℕ) → Bool → Type 0
HasAt update cs s start i r = r ≡ data_has update cs s start (get_or (data_marks update cs) i no_mark)
