-- Promise: the look-up through a plan (document 01, "Looking up a field": the paper's plan route), which jumps from stop to stop.
-- Assumes nothing.
use Rattle.std.specs.Prelude.{ℕ, zero, suc, ◌+◌, ◌/◌, List, [], ◌∷◌, map, Bool, true, false, not, ltb, eqb}
use Rattle.wire.specs.declared.error.Input.TheVariants as input
use Rattle.wire.specs.Read.{Bytes, Read, ok, ◌>>=◌, pick, check, about, sized, whole}
use Rattle.wire.specs.Bits.{bit_set}
use Rattle.maps.specs.Maps.{top_bit}
use Rattle.column.specs.declared.field.Field.{Field}
use Rattle.column.specs.Columns.{is_variable, is_chapter, is_stop}
use Rattle.column.specs.Fields.{bytes_at, variable_at}
use Rattle.column.specs.Packed.{unpacked_column}
use Rattle.column.specs.Stops.{Stop}
use Rattle.walk.specs.Presence.{present}
use Rattle.walk.specs.Rows.{Place, place, reached, Answer, field, null, chapter}
use Rattle.walk.specs.Leaps.{leaps}
use Rattle.plan.specs.declared.plan.Plan.{Plan}
use Rattle.plan.specs.Packed.{before_in, width_in}
use Rattle.plan.specs.Plans.{planned_word, planned_column, planned_mark, planned_gap, planned_map, planned_chapters, planned_stop, planned_first, planned_known}

-- its list of stops starts with one before column k, by its own type and flags
unfoldable pub starts_before : Plan → ℕ → Bool
starts_before p k = pick (ltb (planned_first p) k) (is_stop (planned_column p (planned_first p))) false

-- how many stops a look-up of column k goes over: those listed before it, or none where the list does not start with one
unfoldable pub stops_gone : Plan → ℕ → ℕ
stops_gone p k = pick (starts_before p k) (before_in (planned_word p k)) 0

-- n of a kind: f i, f (i + 1) and so on
unfoldable pub tabled : {A : Type 0} → (ℕ → A) → (n i : ℕ) → List A
tabled f zero i = []
tabled f (suc n) i = f i ∷ tabled f n (suc i)

abbrev pub stops_to : Plan → ℕ → List Stop
stops_to p k = tabled (planned_stop p) (stops_gone p k) 0

-- The field at a position of a column that a plan holds as number n: of variable length by its type, else of the width held.
unfoldable pub field_in : (n : ℕ) → Bytes → (at : ℕ) → Read Field
field_in n row at = pick (is_variable (unpacked_column n)) (variable_at (unpacked_column n) row at) (bytes_at row at (width_in n) 0)

-- A stop as it is gone over: one of fixed width goes by its bit, whatever else its number says.
unfoldable pub by_bit : Stop → Stop
by_bit t =
    record {
      gap = t.gap;
      bit = t.bit;
      free = pick t.variable t.free true;
      variable = t.variable;
      long = t.long;
      even = t.even;
      size = t.size;
      most = t.most;
    }

-- where column k stands: from the row's start over the stops before it, then its gap
unfoldable pub jumped : Plan → Bytes → ℕ → Read Place
jumped p row k = do
  w ← leaps (bit_set row) row (map by_bit (stops_to p k)) (place 0 0)
  ok (place (w.at + planned_gap p k) w.prefixes)

-- its field there
unfoldable pub landed : (n : ℕ) → Bytes → Place → Read Field
landed n row w = do
  f ← field_in n row w.at
  ok (reached w f)

-- none of n bits from b on is set both in the row's map and in the mask; else error 12, at the byte of the first that is
unfoldable pub unset_from : Bytes → (mask n b : ℕ) → Read (Unit {0})
unset_from row mask zero b = ok tt
unset_from row mask (suc n) b = do
  _ ← check (not (pick (eqb (top_bit mask b) 1) (bit_set row b) false)) 12 (b / 8)
  unset_from row mask n (suc b)

abbrev pub unset : Bytes → (mask : ℕ) → Read (Unit {0})
unset row mask = unset_from row mask 64 0

-- a row opens by a plan: its map is whole (1), no chapter's bit is set (12); where its data start
unfoldable pub planned_open : Plan → Bytes → Read ℕ
planned_open p row = do
  start ← whole row 0 (planned_map p)
  _ ← unset row (planned_chapters p)
  ok start

-- column k of a row that opens: a chapter, null, or its field
unfoldable pub planned_answer : Plan → Bytes → ℕ → Read Answer
planned_answer p row k =
    pick (is_chapter (planned_column p k)) (ok chapter)
    (pick (present row (planned_mark p k))
    (do
      w ← jumped p row k
      f ← landed (planned_word p k) row w
      ok (field f))
    (ok null))

-- A look-up through any plan, in a row of allowed size: in the order of a look-up by the walk.
unfoldable pub planned_look_up : Plan → Bytes → ℕ → Read Answer
planned_look_up p row k = do
  _ ← planned_known p k
  _ ← about input.Row (planned_open p row)
  about input.Row (planned_answer p row k)

-- in any row: its size first (19)
unfoldable pub planned_row : Plan → Bytes → ℕ → Read Answer
planned_row p row k = do
  _ ← about input.Row (sized row)
  planned_look_up p row k
