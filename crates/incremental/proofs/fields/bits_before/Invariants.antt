-- The bits of the columns before i.
-- Assumes nothing.
use Prim.Native.Nat.{◌≤◌}
use mathlib.Core.Path.{◌≡◌}
use Rattle.walk.specs.Presence.{bit_of}
use Rattle.shapes.proofs.Slots.{in_slots}
use Rattle.incremental.proofs.fields.bits_before.Given as goal

abbrev pub invariant-loop-i : goal.invariant-loop-i
invariant-loop-i l = (l.bit ≤ l.i) × (l.bit ≡ bit_of (in_slots l.slots l.block.first l.block.count) l.i)
