-- Where none was counted, none of the columns before i is a chapter.
-- Assumes nothing.
use Prim.Native.Nat.{◌≤◌}
use mathlib.Core.Path.{◌≡◌}
use Rattle.row.specs.Told.{NoChapter}
use Rattle.row.proofs.rows.has_chapter.Given as goal

abbrev pub invariant-loop-i : goal.invariant-loop-i
invariant-loop-i l = (l.chapters ≤ l.i) × (l.chapters ≡ 0 → NoChapter l.slots l.i)
