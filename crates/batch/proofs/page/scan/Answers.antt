-- What is ahead of a row, behind what was found so far, is the page.
-- Assumes nothing.
use mathlib.Core.Path.{sym, ◌∙◌}
use Rattle.batch.proofs.PagePass.{at_full, at_first, at_refused, at_span, at_other, at_end}
use Rattle.batch.proofs.page.scan.Goals.{then-is_owned+else-room-count+in-Ok, else-is_owned}
use Rattle.batch.proofs.page.scan.Goals as goal

pub returns-then-room-count : goal.returns-then-room-count
returns-then-room-count c =
    at_full _ _ _ _ _ _ _ _ _ _ c.loop-i.invariant c.loop-i-test.true (sym c.is_owned.ensures ∙ c.if-is_owned.true) c.if-room-count.true

pub returns-in-Err : goal.returns-in-Err
returns-in-Err c =
    at_first _ _ _ _ _ _ _ _ _ _ c.loop-i.invariant c.loop-i-test.true (sym c.is_owned.ensures ∙ c.if-is_owned.true) c.if-room-count.false
    c.in-Err.e c.if-count-eq0.true (sym c.in-Err.ensures)

pub returns-in-Err-2 : goal.returns-in-Err-2
returns-in-Err-2 c =
    at_refused _ _ _ _ _ _ _ _ _ _ c.loop-i.invariant c.loop-i-test.true (sym c.is_owned.ensures ∙ c.if-is_owned.true) c.if-room-count.false
    c.in-Err.e c.if-count-eq0.false (sym c.in-Err.ensures)

pub loop-i-preserved : goal.loop-i-preserved
loop-i-preserved c =
    elim c.if-is_owned.branch [
      | then-is_owned+else-room-count+in-Ok w ↦
          rw (w.spans-is, w.count-is)
          (at_span _ _ _ _ _ _ _ _ _ _ c.loop-i.invariant c.loop-i-test.true (sym c.is_owned.ensures ∙ w.if-is_owned.true) w.if-room-count.false _ _ (sym w.in-Ok.ensures) w.copy_into.ensures)
      | else-is_owned w ↦ rw (w.spans-is, w.count-is) (at_other _ _ _ _ _ _ _ _ _ _ c.loop-i.invariant c.loop-i-test.true (sym c.is_owned.ensures ∙ w.if-is_owned.false))
    ]

pub returns : goal.returns
returns c = at_end _ _ _ _ _ _ _ _ _ _ c.loop-i.invariant c.loop-i-test.false
