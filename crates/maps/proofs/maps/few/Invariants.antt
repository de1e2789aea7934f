-- The bytes before p stand at the top.
-- Assumes nothing.
use Prim.Native.Nat.{◌-◌}
use mathlib.Core.Path.{◌≡◌}
use lib.ListN.{drop}
use Rattle.maps.specs.Maps.{top_bytes}
use Rattle.maps.proofs.maps.few.Given as goal

abbrev pub invariant-loop-p : goal.invariant-loop-p
invariant-loop-p l = l.bits ≡ top_bytes (drop l.at l.s) (l.p - l.at)
