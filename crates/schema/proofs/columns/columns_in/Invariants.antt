-- The loop goes on with one more column in the arrays.
-- Assumes nothing.
use Prim.Native.Nat.{◌≤◌}
use Rattle.tree.proofs.Layouts.{Filling}
use Rattle.schema.proofs.columns.columns_in.Given as goal

abbrev pub invariant-loop-i : goal.invariant-loop-i
invariant-loop-i l = (l.first ≤ 256) × (l.n ≤ 64) × Filling l.table l.first l.n l.columns l.i
