-- The table has as many numbers as its slots that were filled, and the others are left.
-- Assumes nothing.
use Rattle.numbers.proofs.Walking.{filled_next, filled_none, filled_full}
use Rattle.numbers.proofs.listing.fill_numbers.Goals as goal

pub returns-in-None : goal.returns-in-None
returns-in-None c =
    filled_none c.args.file.now (λ i. (c.type_inv.file i).fits) c.args.table.now c.loop-slot.invariant c.in-None.ensures.steps.0

pub loop-slot-preserved : goal.loop-slot-preserved
loop-slot-preserved c = filled_next _ _ _ _ c.loop-slot.invariant c.loop-slot-test.true c.in-Some.ensures.steps

pub returns : goal.returns
returns c = filled_full c.args.file.now (λ i. (c.type_inv.file i).fits) c.args.table.now c.loop-slot.invariant c.loop-slot-test.false
