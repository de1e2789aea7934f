-- Row by row.
-- Assumes nothing.
use Prim.Native.Nat.{◌*◌}
use mathlib.Core.Path.{◌≡◌}
use lib.ListN.{length}
use Rattle.listing.specs.Lines.{RowLines, rows_of, AddsThe}
use Rattle.listing.proofs.lines.add_rows.Given as goal

abbrev pub invariant-loop-i : goal.invariant-loop-i
invariant-loop-i l =
    AddsThe (RowLines (rows_of l.i l.fn.rows)) (84 * l.i) l.fn.text l.text l.at l.end × (length l.text ≡ length l.fn.text)
