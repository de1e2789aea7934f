-- Each slot takes the column's number.
-- Assumes nothing.
use native.Mathlib.Omega.{arith}
use Rattle.schema.proofs.Slotted.{copy_start, copy_next, copy_end}
use Rattle.schema.proofs.columns.slots_in.Goals as goal

pub loop-i-init : goal.loop-i-init
loop-i-init c = copy_start _ _

pub loop-i-preserved : goal.loop-i-preserved
loop-i-preserved c = copy_next _ _ c.loop-i.invariant (omega (arith, c.loop-i-test.true, c.min-n.ensures))

pub returns : goal.returns
returns c =
    let e = copy_end _ _ c.loop-i.invariant c.min-n.result (omega (arith, c.loop-i-test.false)) in rw (c.min-first.ensures, c.min-n.ensures) at e
