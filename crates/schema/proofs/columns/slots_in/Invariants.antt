-- Each slot takes the column's number.
-- Assumes nothing.
use Rattle.schema.proofs.Slotted.{Copying}
use Rattle.schema.proofs.columns.slots_in.Given as goal

abbrev pub invariant-loop-i : goal.invariant-loop-i
invariant-loop-i l = Copying l.table l.first l.slots l.i
