-- The loop goes on with one more column, a stop or not.
-- Assumes nothing.
use lib.ListN.{length}
use Rattle.column.specs.Packed.{packed_from}
use Rattle.plan.proofs.Fill.{Filling}
use Rattle.plan.proofs.make.fill.Given as goal

abbrev pub invariant-loop-i : goal.invariant-loop-i
invariant-loop-i l = Filling (packed_from (length l.slots) 0 l.slots) l.numbers l.gap l.bit l.stops l.first l.mask l.i
