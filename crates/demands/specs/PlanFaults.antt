-- Promise: what is refused through a plan, of any numbers (document 01, "Looking up a field", and its table of refusals), exactly.
-- Assumes nothing.
use Rattle.std.specs.Prelude.{ℕ, suc, ◌+◌, ◌/◌, ◌<◌, ◌≡◌, List, [], ◌∷◌, map, true, false, length, drop}
use Rattle.wire.specs.declared.error.Input.{Input}
use Rattle.wire.specs.declared.error.Input.TheVariants as input
use Rattle.wire.specs.Read.{Bytes, Read, ok, bad}
use Rattle.wire.specs.Bits.{bit_set}
use Rattle.maps.specs.Maps.{top_bit}
use Rattle.column.specs.Columns.{is_variable}
use Rattle.column.specs.Packed.{unpacked_column}
use Rattle.column.specs.Stops.{Stop, there, span_error}
use Rattle.walk.specs.Presence.{present}
use Rattle.walk.specs.Rows.{Place, place}
use Rattle.walk.specs.Leaps.{passed, leaps}
use Rattle.plan.specs.declared.plan.Plan.{Plan}
use Rattle.plan.specs.Packed.{width_in}
use Rattle.plan.specs.Plans.{planned_word, planned_mark, planned_gap, planned_count, planned_map, planned_chapters}
use Rattle.jump.specs.Jumps.{stops_to, by_bit}
use Rattle.grammar.specs.Grammar.{Row}
use Rattle.batch.specs.Spans.{owner_of, start_in, is_row, Span}
use Rattle.demands.specs.Checks.{Refusals, Silent, ◌then◌, Of, lent, Sizes, Short, Missing}
use Rattle.demands.specs.RowFaults.{FieldFault}

-- 17: the plan is not the one that is made now; at 0
pub data PlanFault (p made : Plan) : (code offset : ℕ) → Type 0 where
  differs : (p ≡ made → ⊥) → PlanFault p made 17 0

-- 12: one of n bits from b on is set both in the row's map and in a mask, at the map byte of the first such
pub data BitFault (row : Bytes) (mask : ℕ) : (n b code offset : ℕ) → Type 0 where
  this_bit : {n b : ℕ} → top_bit mask b ≡ 1 → bit_set row b ≡ true → BitFault row mask (suc n) b 12 (b / 8)
  later_bit : {n b code offset : ℕ} → (top_bit mask b ≡ 1 → bit_set row b ≡ false) → BitFault row mask n (suc b) code offset → BitFault row mask (suc n) b code offset

-- opening a row: its map is whole (1), none of the chapters' bits that the plan holds is set (12)
abbrev pub PlanOpenFaults : Plan → Bytes → Refusals
PlanOpenFaults p row = Of input.Row (Short row 0 (planned_map p)) then Of input.Row (BitFault row (planned_chapters p) 64 0)

-- 14: the way over stops: of the first one that the row has with a length that is not allowed, at its prefix. What is missing is missed at the
-- column's own field.
pub data StopFault (row : Bytes) : List Stop → Place → (code offset : ℕ) → Type 0 where
  in_stop : {t : Stop} {ts : List Stop} {w : Place} → there (bit_set row) t ≡ true → span_error t row (w.at + t.gap) ≡ 14 → StopFault row (t ∷ ts) w 14 (w.at + t.gap)
  behind_stop : {t : Stop} {ts : List Stop} {w v : Place} {code offset : ℕ} → passed (bit_set row) row t w ≡ ok v → StopFault row ts v code offset →
      StopFault row (t ∷ ts) w code offset

-- the stops on the way to column k
abbrev pub way_to : Plan → ℕ → List Stop
way_to p k = map by_bit (stops_to p k)

-- The field at `at` of a column that a plan holds as number n: of variable length by its type, else of the width held.
pub data HeldFault (n : ℕ) (row : Bytes) (at : ℕ) : (code offset : ℕ) → Type 0 where
  held_variable : {code offset : ℕ} → is_variable (unpacked_column n) ≡ true → FieldFault (unpacked_column n) row at code offset → HeldFault n row at code offset
  held_width : is_variable (unpacked_column n) ≡ false → length row < at + width_in n → HeldFault n row at 1 (length row)

-- column k, where it is present: the way to it, then its field
pub data JumpFault (p : Plan) (row : Bytes) (k : ℕ) : (code offset : ℕ) → Type 0 where
  on_the_way : {code offset : ℕ} → present row (planned_mark p k) ≡ true → StopFault row (way_to p k) (place 0 0) code offset → JumpFault p row k code offset
  in_column : {code offset : ℕ} {w : Place} → present row (planned_mark p k) ≡ true → leaps (bit_set row) row (way_to p k) (place 0 0) ≡ ok w →
      HeldFault (planned_word p k) row (w.at + planned_gap p k) code offset → JumpFault p row k code offset

-- A look-up through any plan, behind the row's size: the column number (18), the row opens (1, 12), and then the way to the column.
abbrev pub PlannedFaults : Plan → Bytes → ℕ → Refusals
PlannedFaults p row k = Of input.Column (Missing (planned_count p) k) then PlanOpenFaults p row then Of input.Row (JumpFault p row k)

-- with the row's size (19) in front
abbrev pub PlannedRowFaults : Plan → ℕ → Bytes → Refusals
PlannedRowFaults p k row = Sizes (lent input.Row row ∷ []) then PlannedFaults p row k

-- One column of the rows of an owner, by what a look-up refuses of the part of the section from a row's start on: the first row that is refused,
-- an error of the row being one of the section, at its place there.
pub data BatchFault (refuses : Bytes → Refusals) (s : Bytes) (owner : ℕ) : List Row → (code offset : ℕ) → Input → Type 0 where
  in_row : {r : Row} {rs : List Row} {code offset : ℕ} {name : Input} → owner_of r ≡ owner → is_row name ≡ true →
      refuses (drop (start_in s r.original) s) code offset name → BatchFault refuses s owner (r ∷ rs) code (start_in s r.original + offset) input.Section
  of_other : {r : Row} {rs : List Row} {code offset : ℕ} {name : Input} → owner_of r ≡ owner → is_row name ≡ false →
      refuses (drop (start_in s r.original) s) code offset name → BatchFault refuses s owner (r ∷ rs) code offset name
  behind_row : {r : Row} {rs : List Row} {code offset : ℕ} {name : Input} → (owner_of r ≡ owner → Silent (refuses (drop (start_in s r.original) s))) →
      BatchFault refuses s owner rs code offset name → BatchFault refuses s owner (r ∷ rs) code offset name

-- the spans that are found; none beside an error
abbrev pub found_spans : Read (List Span) → List Span
found_spans (ok xs) = xs
found_spans (bad code offset name) = []
