-- Where none was counted, none of the columns before i is a stop; else one is.
-- Assumes nothing.
use Prim.Native.Nat.{◌≤◌, ◌<◌}
use mathlib.Core.Bool.{true, false}
use mathlib.Core.Path.{◌≡◌}
use Rattle.plan.specs.Plans.{no_stops, lent}
use Rattle.plan.proofs.fixed.counts_no_stop.Given as goal

abbrev pub invariant-loop-i : goal.invariant-loop-i
invariant-loop-i l = (l.stops ≤ l.i) × (l.stops ≡ 0 → no_stops (lent l.plan) l.i ≡ true) × (0 < l.stops → no_stops (lent l.plan) l.i ≡ false)
