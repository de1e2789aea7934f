-- What is left of the fragment leads to the same state (`Taking`).
-- Assumes nothing.
use Prim.Native.Nat.{◌-◌}
use lib.ListN.{length}
use Rattle.incremental.specs.Steps.{schemas_of}
use Rattle.incremental.proofs.TakeLaws.{Taking}
use Rattle.incremental.proofs.take.take_in.Given as goal

abbrev pub invariant-loop-at : goal.invariant-loop-at
invariant-loop-at l = Taking (schemas_of l.sheet) l.fragment l.initial.r l.r l.at

abbrev pub decreases-loop-at : goal.decreases-loop-at
decreases-loop-at l = length l.fragment - l.at
