-- The loop goes on with one more schema.
-- Assumes nothing.
use Rattle.shapes.proofs.ShapesMade.{Keeping}
use Rattle.shapes.proofs.shapes.keep_schemas.Given as goal

abbrev pub invariant-loop-k : goal.invariant-loop-k
invariant-loop-k l = Keeping l.slots l.schemas l.initial.shapes l.shapes l.next l.k
