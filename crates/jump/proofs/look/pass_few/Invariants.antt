-- What is left of the way from stop j on is what there was from the start.
-- Assumes nothing.
use Prim.Native.Nat.{◌-◌}
use mathlib.Core.Path.{◌≡◌}
use Rattle.walk.specs.Rows.{place}
use Rattle.plan.specs.Plans.{lent}
use Rattle.jump.specs.Lent.{come, way_over, Far}
use Rattle.jump.proofs.look.pass_few.Given as goal

abbrev pub invariant-loop-j : goal.invariant-loop-j
invariant-loop-j l = Far l.j l.way × (way_over (lent l.plan) l.row l.n 0 (place 0 0) ≡ way_over (lent l.plan) l.row (l.n - l.j) l.j (come l.way))
