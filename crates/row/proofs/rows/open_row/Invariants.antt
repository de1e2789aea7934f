-- The chapters that are left to check from column i on are those that there were from the start; the bits before it are counted.
-- Assumes nothing.
use Prim.Native.Nat.{◌≤◌}
use mathlib.Core.Path.{◌≡◌}
use lib.ListN.{length, drop}
use Rattle.column.specs.Packed.{packed_from}
use Rattle.walk.specs.Presence.{bit_of, marks, chapter_present, clear}
use Rattle.row.proofs.rows.open_row.Given as goal

abbrev pub invariant-loop-i : goal.invariant-loop-i
invariant-loop-i l =
    (l.bit ≤ l.i) × (l.bit ≡ bit_of (packed_from (length l.slots) 0 l.slots) l.i)
    × (clear (chapter_present (drop l.at l.row)) 12 l.at (marks 0 (packed_from (length l.slots) 0 l.slots))
    ≡ clear (chapter_present (drop l.at l.row)) 12 l.at (drop l.i (marks 0 (packed_from (length l.slots) 0 l.slots))))
