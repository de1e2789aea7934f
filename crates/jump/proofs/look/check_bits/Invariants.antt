-- What is left to check from bit b on is what there was from the start.
-- Assumes nothing.
use Prim.Native.Nat.{◌-◌}
use mathlib.Core.Path.{◌≡◌}
use Rattle.jump.specs.Jumps.{unset_from, unset}
use Rattle.jump.proofs.look.check_bits.Given as goal

abbrev pub invariant-loop-b : goal.invariant-loop-b
invariant-loop-b l = unset l.row l.mask ≡ unset_from l.row l.mask (64 - l.b) l.b
