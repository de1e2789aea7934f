-- The mask of presence has the bits of the columns before this one.
-- Assumes nothing.
use Prim.Native.Nat.{◌≤◌}
use mathlib.Core.Path.{◌≡◌}
use Rattle.walk.specs.Presence.{bit_of}
use Rattle.shapes.specs.Shapes.{slice_columns}
use Rattle.shapes.proofs.MaskLaws.{Presenting}
use Rattle.shapes.proofs.masks.add_masks.Given as goal

abbrev pub invariant-loop-slot : goal.invariant-loop-slot
invariant-loop-slot l = (l.bit ≤ l.slot-index) × (l.bit ≡ bit_of (slice_columns l.columns) l.slot-index) × Presenting (slice_columns l.columns) l.present l.slot-index
