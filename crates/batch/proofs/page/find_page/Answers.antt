-- The checks, and then the scan.
-- Assumes nothing.
use Prim.Native.Nat.{◌<◌, ◌≤◌}
use native.Mathlib.Omega.{arith}
use lib.ListN.{length}
use Rattle.plan.specs.Plans.{lent}
use Rattle.batch.specs.Spans.{planned}
use Rattle.batch.specs.Pages.{rows_in}
use Rattle.batch.proofs.PageFinding.{found_large, found_fewer, found_behind, found_page}
use Rattle.batch.proofs.page.find_page.Goals as goal

pub returns-then-section-gt-LIMIT : goal.returns-then-section-gt-LIMIT
returns-then-section-gt-LIMIT c =
    rw c.at_start.ensures (found_large (planned (lent c.args.plan.now) c.args.column) c.args.section.now c.args.table.now c.args.rows c.args.from c.args.owner c.args.spans.now c.if-section-gt-LIMIT.true)

pub returns-then-min-rows : goal.returns-then-min-rows
returns-then-min-rows c =
    rw c.at_start-then-min-rows.ensures (found_fewer (planned (lent c.args.plan.now) c.args.column) c.args.section.now c.args.table.now c.args.rows c.args.from c.args.owner c.args.spans.now (omega (arith, c.if-section-gt-LIMIT.false)) (let l : rows_in (length c.args.table.now) < c.args.rows = omega (arith, c.min.ensures, c.if-min-rows.true) in l))

pub returns-then-rows-from : goal.returns-then-rows-from
returns-then-rows-from c =
    rw c.at_start-then-rows-from.ensures (found_behind (planned (lent c.args.plan.now) c.args.column) c.args.section.now c.args.table.now c.args.rows c.args.from c.args.owner c.args.spans.now (omega (arith, c.if-section-gt-LIMIT.false)) (let l : c.args.rows ≤ rows_in (length c.args.table.now) = omega (arith, c.min.ensures, c.if-min-rows.false) in l) c.if-rows-from.true)

pub scan-requires : goal.scan-requires
scan-requires c =
    (omega (arith, c.min.ensures, c.if-min-rows.false), omega (arith, c.min.ensures, c.if-min-rows.false), omega (arith, c.if-rows-from.false))

pub returns : goal.returns
returns c =
    found_page (planned (lent c.args.plan.now) c.args.column) c.args.section.now c.args.table.now c.args.rows c.args.from c.args.owner c.args.spans.now (omega (arith, c.if-section-gt-LIMIT.false)) (let l : c.args.rows ≤ rows_in (length c.args.table.now) = omega (arith, c.min.ensures, c.if-min-rows.false) in l) _ _ (omega (arith, c.if-rows-from.false)) c.scan.ensures
