-- Each column goes into its slot.
-- Assumes nothing.
use Rattle.column.proofs.PackedLaws.{Packing}
use Rattle.column.proofs.columns.pack_all.Given as goal

abbrev pub invariant-loop-i : goal.invariant-loop-i
invariant-loop-i l = Packing l.slots l.columns.columns l.i
