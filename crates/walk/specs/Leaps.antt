-- Promise: leaps: the way over row data from stop to stop, instead of from column to column. It ends where the walk ends (proofs/Leap.antt).
-- Assumes nothing.
use Rattle.std.specs.Prelude.{ℕ, ◌+◌, List, [], ◌∷◌, Bool, true, false, not, length, drop, leb, eqb}
use Rattle.wire.specs.declared.error.Input.TheVariants as input
use Rattle.wire.specs.Read.{Bytes, Read, ok, bad, ◌>>=◌, pick}
use Rattle.wire.specs.Bits.{bit_set}
use Rattle.column.specs.declared.column.Column.{Column}
use Rattle.column.specs.Columns.{width}
use Rattle.column.specs.Stops.{Stop, stop_of, there, span_at, span_error}
use Rattle.walk.specs.Presence.{Mark, one, count}
use Rattle.walk.specs.Rows.{Place, place}
use Rattle.walk.specs.Updates.{update_bytes}

-- The stops among columns, in their order, with so many bytes in front of the first column: which columns are stops, and of which a row may
-- lack the field, is given.
unfoldable pub stops_from : (free stop : Column → Bool) → (gap : ℕ) → List Mark → List Stop
stops_from free stop gap [] = []
stops_from free stop gap (m ∷ ms) =
    pick (stop m.column) (stop_of (free m.column) m.column gap m.bit ∷ stops_from free stop 0 ms)
    (stops_from free stop (gap + width m.column) ms)

-- the bytes behind the last stop
unfoldable pub tail_from : (stop : Column → Bool) → (gap : ℕ) → List Mark → ℕ
tail_from stop gap [] = gap
tail_from stop gap (m ∷ ms) = pick (stop m.column) (tail_from stop 0 ms) (tail_from stop (gap + width m.column) ms)

-- in update data every column may have a field or not
abbrev pub any_column : Column → Bool
any_column c = true

-- One stop: over its gap, and past its field where it is there, whose length must be allowed. Whether the field's bytes are there is not
-- asked: what is missing is missed at the end.
unfoldable pub passed : (on : ℕ → Bool) → Bytes → Stop → Place → Read Place
passed on s t w =
    pick (there on t)
    (pick (eqb (span_error t s (w.at + t.gap)) 0)
    (ok (place (w.at + t.gap + span_at t s (w.at + t.gap)) (w.prefixes + one t.variable)))
    (bad (span_error t s (w.at + t.gap)) (w.at + t.gap) input.Single))
    (ok (place (w.at + t.gap) w.prefixes))

-- one stop after the other; the first error ends it
unfoldable pub leaps : (on : ℕ → Bool) → Bytes → List Stop → Place → Read Place
leaps on s [] w = ok w
leaps on s (t ∷ ts) w = do
  v ← passed on s t w
  leaps on s ts v

-- a place, where the input reaches so far; else the input is too short (1)
unfoldable pub inside : Bytes → Place → Read Place
inside s w = pick (leb w.at (length s)) (ok w) (bad 1 (length s) input.Single)

-- over the stops and so many bytes behind the last, to where the input must reach
unfoldable pub leap : (on : ℕ → Bool) → Bytes → List Stop → (tail : ℕ) → Place → Read Place
leap on s ts tail w = do
  v ← leaps on s ts w
  inside s (place (v.at + tail) v.prefixes)

-- Inner.

-- update 1 and force 0 in column b of the update data at `at`
unfoldable pub carried_bit : List Column → Bytes → (at : ℕ) → (b : ℕ) → Bool
carried_bit cs s at b = pick (bit_set (drop at s) b) (not (bit_set (drop (at + update_bytes cs) s) b)) false

-- how many of the columns are stops
abbrev pub stop_count : (stop : Column → Bool) → List Mark → ℕ
stop_count stop ms = count (λ (m : Mark). stop m.column) ms
