-- The loop goes on with one more column, a stop or not.
-- Assumes nothing.
use Rattle.shapes.specs.Shapes.{slice_columns}
use Rattle.shapes.proofs.StopsMade.{Growing}
use Rattle.shapes.proofs.shapes.add_stops.Given as goal

abbrev pub invariant-loop-slot : goal.invariant-loop-slot
invariant-loop-slot l = Growing (slice_columns l.columns) l.next l.initial.shapes l.shapes l.stops l.gap l.bit l.slot-index
