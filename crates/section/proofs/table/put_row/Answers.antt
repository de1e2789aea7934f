-- Four numbers are stored where they fit.
-- Assumes nothing.
use mathlib.Core.Path.{sym}
use native.Mathlib.Omega.{arith}
use lib.ListN.{length-set}
use Rattle.wire.proofs.Laws.{put_not}
use Rattle.section.proofs.Laid.{put_four}
use Rattle.section.proofs.table.put_row.Goals as goal

pub returns-then-table-at : goal.returns-then-table-at
returns-then-table-at c = sym (put_not _ _ _ c.if-table-at.true)

pub bounds-table-at-2 : goal.bounds-table-at-2
bounds-table-at-2 c = simp length-set (omega (arith, c.if-table-at.false))

pub bounds-table-at-3 : goal.bounds-table-at-3
bounds-table-at-3 c = simp (length-set, length-set) (omega (arith, c.if-table-at.false))

pub bounds-table-at-4 : goal.bounds-table-at-4
bounds-table-at-4 c = simp (length-set, length-set, length-set) (omega (arith, c.if-table-at.false))

pub returns : goal.returns
returns c = put_four _ _ _ _ _ _ c.if-table-at.false
