-- A run, or an element that was said, keeps what holds before it.
-- Assumes nothing.
use Prim.Native.Nat.{◌-◌}
use lib.ListN.{length}
use Rattle.section.proofs.Passing.{AtPass}
use Rattle.section.proofs.pass.pass_elements.Given as goal

abbrev pub invariant-loop-sheet : goal.invariant-loop-sheet
invariant-loop-sheet l = AtPass l.slots l.shapes l.schemas l.section l.step l.start l.child l.at l.rows l.before l.last

abbrev pub decreases-loop-sheet : goal.decreases-loop-sheet
decreases-loop-sheet l = length l.section - l.at
