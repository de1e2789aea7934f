-- Each turn passes four stops of those that are left.
-- Assumes nothing.
use Prim.Native.Nat.{◌+◌, ◌-◌, ◌*◌, ◌%◌}
use mathlib.Core.Path.{◌≡◌}
use Rattle.plan.specs.Plans.{lent}
use Rattle.jump.specs.Lent.{come, way_over, Far}
use Rattle.jump.proofs.look.pass_rest.Given as goal

abbrev pub invariant-loop-turn : goal.invariant-loop-turn
invariant-loop-turn l =
    Far (l.n % 4 + 4 * l.turn) l.way
    × (way_over (lent l.plan) l.row (l.n - l.n % 4) (l.n % 4) (come l.fn.start)
    ≡ way_over (lent l.plan) l.row (l.n - (l.n % 4 + 4 * l.turn)) (l.n % 4 + 4 * l.turn) (come l.way))
