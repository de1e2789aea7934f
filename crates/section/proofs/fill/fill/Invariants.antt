-- A run, a size that was noted, or an end that is asked.
-- Assumes nothing.
use Prim.Native.Nat.{◌-◌, ◌<◌}
use lib.ListN.{length}
use Rattle.tree.specs.Table.{schemas_in}
use Rattle.section.specs.Sizes.{Accepted}
use Rattle.section.proofs.Filling.{AtFill}
use Rattle.section.proofs.fill.fill.Given as goal

abbrev pub invariant-loop-at : goal.invariant-loop-at
invariant-loop-at l = ((a : Accepted (schemas_in 0 l.sheet.schemas l.sheet.slots.now) l.section l.step l.sizes) → AtFill l.step (schemas_in 0 l.sheet.schemas l.sheet.slots.now) l.section l.sizes a.some l.initial.table l.table l.at l.rows l.origin l.i) × (l.last < l.sheet.schemas)

abbrev pub decreases-loop-at : goal.decreases-loop-at
decreases-loop-at l = length l.section - l.at
