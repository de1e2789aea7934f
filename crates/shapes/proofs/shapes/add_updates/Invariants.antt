-- The loop goes on with one more word.
-- Assumes nothing.
use Rattle.shapes.specs.Shapes.{slice_columns}
use Rattle.shapes.proofs.StopsMade.{Updating}
use Rattle.shapes.proofs.shapes.add_updates.Given as goal

abbrev pub invariant-loop-i : goal.invariant-loop-i
invariant-loop-i l = Updating (slice_columns l.columns) l.next l.initial.shapes l.shapes l.i
