-- The lines of the rows so far, and then one row more.
-- Assumes nothing.
use mathlib.Core.Path.{refl}
use native.Mathlib.Omega.{arith}
use Rattle.listing.proofs.Laws.{lines_start, lines_next}
use Rattle.listing.proofs.lines.add_rows.Goals as goal

pub loop-i-init : goal.loop-i-init
loop-i-init c = (lines_start c.args.text.now c.args.rows.now c.args.at (omega (arith, c.requires)), refl)

pub loop-i-preserved : goal.loop-i-preserved
loop-i-preserved c =
    let (so_far, size) = c.loop-i.invariant in (
      lines_next c.args.rows.now c.loop-i.i so_far c.add_row-end.ensures (omega (arith, c.requires, size)),
      omega (arith, size),
    )
