-- The loop counts whole bytes.
-- Assumes nothing.
use Prim.Native.Nat.{◌*◌}
use mathlib.Core.Path.{◌≡◌}
use Rattle.walk.specs.Rows.{set_bits}
use Rattle.row.proofs.rows.count_set.Given as goal

abbrev pub invariant-loop-i : goal.invariant-loop-i
invariant-loop-i l = l.count ≡ set_bits l.map (8 * l.i)
