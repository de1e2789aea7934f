-- A run, or an element, keeps what holds before it.
-- Assumes nothing.
use native.Mathlib.Omega.{arith}
use Rattle.section.proofs.Passing.{pass_start, pass_run, pass_closing, pass_row, none_to}
use Rattle.section.proofs.pass.pass_elements.Goals as goal

pub returns-then-is_outside-clause-passes : goal.returns-then-is_outside-clause-passes
returns-then-is_outside-clause-passes c = λ sound shaped steps b l z. none_to b l

pub loop-sheet-init : goal.loop-sheet-init
loop-sheet-init c = pass_start (c.is_outside.ensures c.if-is_outside.false)

pub loop-sheet-preserved-then-is_new : goal.loop-sheet-preserved-then-is_new
loop-sheet-preserved-then-is_new c =
    let (l, i) = c.lies.ensures c.if-lies.true in
    pass_row c.loop-sheet.invariant c.in-Some.element c.in-Some.ensures l i (grind arith)

pub loop-sheet-preserved-else-is_new : goal.loop-sheet-preserved-else-is_new
loop-sheet-preserved-else-is_new c =
    let (l, i) = c.lies.ensures c.if-lies.true in
    pass_closing c.loop-sheet.invariant c.in-Some.element c.in-Some.ensures l i (grind arith)

pub loop-sheet-preserved : goal.loop-sheet-preserved
loop-sheet-preserved c = pass_run c.loop-sheet.invariant (λ i. (c.type_inv.section i).fits) c.run-n.ensures c.if-n-eq0.false
