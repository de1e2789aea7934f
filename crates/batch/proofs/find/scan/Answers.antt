-- The loop goes on with one more span, where the row is the owner's.
-- Assumes nothing.
use mathlib.Core.Path.{sym}
use native.Mathlib.Omega.{arith}
use Rattle.batch.proofs.Pass.{at_span, at_other}
use Rattle.batch.proofs.find.scan.Goals.{then-is_owned+in-Ok, else-is_owned}
use Rattle.batch.proofs.find.scan.Goals as goal

pub loop-i-preserved : goal.loop-i-preserved
loop-i-preserved c =
    elim c.if-is_owned.branch [
      | then-is_owned+in-Ok w ↦
          rw (w.spans-is, w.count-is)
          (at_span _ _ _ _ _ _ _ _ c.loop-i.invariant c.loop-i-test.true (grind arith) _ _ (sym w.in-Ok.ensures) w.copy_into.ensures)
      | else-is_owned w ↦ rw (w.spans-is, w.count-is) (at_other _ _ _ _ _ _ _ _ c.loop-i.invariant c.loop-i-test.true (grind arith))
    ]
