-- The loop counts the bits before column i.
-- Assumes nothing.
use Prim.Native.Nat.{◌≤◌}
use mathlib.Core.Path.{◌≡◌}
use lib.ListN.{length}
use Rattle.column.specs.Packed.{packed_from}
use Rattle.walk.specs.Presence.{bit_of}
use Rattle.row.proofs.rows.count_nullable.Given as goal

abbrev pub invariant-loop-i : goal.invariant-loop-i
invariant-loop-i l = (l.bits ≤ l.i) × (l.bits ≡ bit_of (packed_from (length l.slots) 0 l.slots) l.i)
