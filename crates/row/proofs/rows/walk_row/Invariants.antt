-- The loop stands where the walk over the columns before i has come to.
-- Assumes nothing.
use Prim.Native.Nat.{◌≤◌}
use mathlib.Core.Path.{◌≡◌}
use lib.ListN.{length}
use Rattle.wire.specs.Read.{ok}
use Rattle.column.specs.Packed.{packed_from}
use Rattle.walk.specs.Presence.{bit_of, marks, present}
use Rattle.walk.specs.Rows.{place, walk}
use Rattle.row.proofs.rows.walk_row.Given as goal

abbrev pub invariant-loop-i : goal.invariant-loop-i
invariant-loop-i l =
    (l.bit ≤ l.i) × (l.bit ≡ bit_of (packed_from (length l.slots) 0 l.slots) l.i) × (l.prefixes ≤ l.i)
    × (walk (present l.map) l.row l.i (marks 0 (packed_from (length l.slots) 0 l.slots)) (place l.start 0) ≡ ok (place l.position l.prefixes))
