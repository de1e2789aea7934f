-- Column by column (`Opening`).
-- Assumes nothing.
use Rattle.shapes.proofs.Slots.{in_slots}
use Rattle.incremental.proofs.PieceLaws.{Opening}
use Rattle.incremental.proofs.pieces.opens.Given as goal

abbrev pub invariant-loop-i : goal.invariant-loop-i
invariant-loop-i l = Opening (in_slots l.slots l.block.first l.block.count) l.bits l.i l.bit
