-- By the test.
-- Assumes nothing.
use mathlib.Core.Path.{refl}
use native.Mathlib.Omega.{arith}
use lib.ListN.{get_or}
use Rattle.quick.proofs.WayLaws.{rigid_both, step_says}
use Rattle.quick.proofs.ends.row_step.Goals as goal

pub returns-then-is_rigid : goal.returns-then-is_rigid
returns-then-is_rigid c =
    let (n, z) = rigid_both (get_or c.args.shapes.now 0 0) c.is_rigid.ensures c.if-is_rigid.true in
    (step_says c.args.shapes.now refl n z (omega (arith, c.tail_in.ensures.0)), omega (arith, c.tail_in.ensures.1))
