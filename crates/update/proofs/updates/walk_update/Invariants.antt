-- The loop stands where the walk over the columns before i has come to.
-- Assumes nothing.
use Prim.Native.Nat.{◌≤◌}
use mathlib.Core.Path.{◌≡◌}
use Rattle.wire.specs.Read.{ok}
use Rattle.walk.specs.Rows.{place, walk}
use Rattle.walk.specs.Updates.{numbered, carried}
use Rattle.update.proofs.updates.walk_update.Given as goal

abbrev pub invariant-loop-i : goal.invariant-loop-i
invariant-loop-i l =
    (l.prefixes ≤ l.i) × (walk (carried l.update l.force) l.row l.i (numbered 0 l.columns) (place l.start 0) ≡ ok (place l.position l.prefixes))
