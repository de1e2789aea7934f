-- The loop copies number after number: `paste` of as many as have been copied.
-- Assumes nothing.
use Prim.Native.Nat.{◌≤◌, ◌+◌}
use mathlib.Core.Path.{◌≡◌}
use lib.ListN.{length}
use lib.Seq.{paste}
use Rattle.wire.proofs.bytes.copy_into.Given as goal

abbrev pub invariant-loop-i : goal.invariant-loop-i
invariant-loop-i g l = (l.at + length l.part ≤ length l.initial.out) × (length l.out ≡ length l.initial.out) × (l.out ≡ paste l.initial.out l.at l.part l.i)
