-- The loop counts over the columns before i.
-- Assumes nothing.
use Prim.Native.Nat.{◌≤◌}
use mathlib.Core.Path.{◌≡◌}
use lib.ListN.{length, take}
use Rattle.column.specs.Packed.{packed_from}
use Rattle.walk.specs.Rows.{always}
use Rattle.row.proofs.rows.count_always.Given as goal

abbrev pub invariant-loop-i : goal.invariant-loop-i
invariant-loop-i l = (l.count ≤ l.i) × (l.count ≡ always (take l.i (packed_from (length l.slots) 0 l.slots)))
