-- Promise: what is refused of a page through a plan, of any numbers, exactly.
-- Assumes nothing.
use Rattle.std.specs.Prelude.{ℕ, suc, ◌+◌, ◌<◌, ◌≡◌, List, ◌∷◌, true, false, length, drop}
use Rattle.wire.specs.declared.error.Input.{Input}
use Rattle.wire.specs.declared.error.Input.TheVariants as input
use Rattle.wire.specs.Read.{Bytes}
use Rattle.batch.specs.Spans.{start_in, is_row}
use Rattle.batch.specs.Pages.{Numbered, owned_in, room_in, rows_in}
use Rattle.demands.specs.Checks.{Refusals, ◌then◌, Of}

-- 18: a number over the greatest there is; at 0
pub data Beyond (most number : ℕ) : (code offset : ℕ) → Type 0 where
  beyond : most < number → Beyond most number 18 0

-- A page of rows of one owner, by what a look-up refuses of the part of the section from a row's start on: its first row, where there is room
-- for it. An error of the row is one of the section, at its place there.
pub data PageFault (refuses : Bytes → Refusals) (s : Bytes) : (room : ℕ) → List Numbered → (code offset : ℕ) → Input → Type 0 where
  in_row : {room code offset : ℕ} {o : Numbered} {os : List Numbered} {name : Input} → is_row name ≡ true →
      refuses (drop (start_in s o.row.original) s) code offset name →
      PageFault refuses s (suc room) (o ∷ os) code (start_in s o.row.original + offset) input.Section
  of_other : {room code offset : ℕ} {o : Numbered} {os : List Numbered} {name : Input} → is_row name ≡ false →
      refuses (drop (start_in s o.row.original) s) code offset name → PageFault refuses s (suc room) (o ∷ os) code offset name

-- A page, behind the section's size: the table has so many rows (18), and the one that it begins with (18); then its first row.
abbrev pub PageFaults : (refuses : Bytes → Refusals) → Bytes → (table : List ℕ) → (rows from owner room : ℕ) → Refusals
PageFaults refuses s table rows from owner room =
    Of input.Table (Beyond (rows_in (length table)) rows) then Of input.Place (Beyond rows from)
    then PageFault refuses s (room_in room) (owned_in table rows from owner)
