-- The loop gathers what differs.
-- Assumes nothing.
use Rattle.plan.proofs.Alike.{Gathered}
use Rattle.plan.proofs.compare.same.Given as goal

abbrev pub invariant-loop-i : goal.invariant-loop-i
invariant-loop-i l = Gathered l.a l.b l.differs l.i
