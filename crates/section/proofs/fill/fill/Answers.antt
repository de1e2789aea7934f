-- A run, a size that was noted, or an end that is asked.
-- Assumes nothing.
use native.Mathlib.Omega.{arith}
use Rattle.tree.specs.Table.{schemas_in}
use Rattle.shapes.proofs.Slots.{sound_held}
use Rattle.section.proofs.RunLaws.{run_few}
use Rattle.section.proofs.Scanning.{step_ends}
use Rattle.section.proofs.Filling.{schemas_top, fill_start, fill_inside, fill_done, fill_run, entry_some, entry_fits, entry_asked, taken_inside, size_onward, fill_next, fill_next_asked, asked_low, asked_end, no_run}
use Rattle.section.proofs.fill.fill.Goals as goal

pub loop-at-init : goal.loop-at-init
loop-at-init c =
    ((λ a. fill_start _ _ _ _ _ _), c.requires.0.sound.top)

pub bounds-section-at : goal.bounds-section-at
bounds-section-at c =
    fill_inside _ (schemas_in 0 c.args.sheet.now.schemas c.args.sheet.now.slots.now) _ _ c.requires.1 (schemas_top c.requires.0) c.args.sheet.now.bytes _ _ _ _ _ _ (c.loop-at.invariant.0 c.requires.1)

pub put_run-n-requires : goal.put_run-n-requires
put_run-n-requires c =
    (omega (arith, fill_inside _ (schemas_in 0 c.args.sheet.now.schemas c.args.sheet.now.slots.now) _ _ c.requires.1 (schemas_top c.requires.0) c.args.sheet.now.bytes _ _ _ _ _ _ (c.loop-at.invariant.0 c.requires.1)), (c.loop-at.invariant.0 c.requires.1).element.few)

pub entry_at-row-requires : goal.entry_at-row-requires
entry_at-row-requires c =
    (fill_inside _ (schemas_in 0 c.args.sheet.now.schemas c.args.sheet.now.slots.now) _ _ c.requires.1 (schemas_top c.requires.0) c.args.sheet.now.bytes _ _ _ _ _ _ (c.loop-at.invariant.0 c.requires.1), (c.loop-at.invariant.0 c.requires.1).low, c.requires.0.sized)

pub bounds-section-at-then-n-eq0 : goal.bounds-section-at-then-n-eq0
bounds-section-at-then-n-eq0 c =
    fill_inside _ (schemas_in 0 c.args.sheet.now.schemas c.args.sheet.now.slots.now) _ _ c.requires.1 (schemas_top c.requires.0) c.args.sheet.now.bytes _ _ _ _ _ _ (c.loop-at.invariant.0 c.requires.1)

pub overflow_add-rows : goal.overflow_add-rows
overflow_add-rows c =
    omega (arith, fill_inside _ (schemas_in 0 c.args.sheet.now.schemas c.args.sheet.now.slots.now) _ _ c.requires.1 (schemas_top c.requires.0) c.args.sheet.now.bytes _ _ _ _ _ _ (c.loop-at.invariant.0 c.requires.1), (c.loop-at.invariant.0 c.requires.1).element.few, c.requires.0.sized)

pub overflow_sub-rows-then-n-eq0 : goal.overflow_sub-rows-then-n-eq0
overflow_sub-rows-then-n-eq0 c =
    entry_some _ (schemas_in 0 c.args.sheet.now.schemas c.args.sheet.now.slots.now) _ _ c.requires.1 (schemas_top c.requires.0) c.args.sheet.now.bytes _ _ _ _ _ _ (c.loop-at.invariant.0 c.requires.1) c.loop-at-test.true _ c.entry_at-row.ensures

pub put_row-requires : goal.put_row-requires
put_row-requires c =
    entry_fits _ (schemas_in 0 c.args.sheet.now.schemas c.args.sheet.now.slots.now) _ _ c.requires.1 (schemas_top c.requires.0) c.args.sheet.now.bytes _ _ _ _ _ _ (c.loop-at.invariant.0 c.requires.1) c.loop-at-test.true _ c.entry_at-row.ensures c.requires.0.sized

pub element_end-at-requires : goal.element_end-at-requires
element_end-at-requires c =
    (sound_held c.requires.0.sound (asked_low c.requires.0 c.number_for-last.result c.entry_at-row.result.kind c.entry_at-row.result.id c.number_for-last.ensures), fill_inside _ (schemas_in 0 c.args.sheet.now.schemas c.args.sheet.now.slots.now) _ _ c.requires.1 (schemas_top c.requires.0) c.args.sheet.now.bytes _ _ _ _ _ _ (c.loop-at.invariant.0 c.requires.1))

pub loop-at-smaller-in-None : goal.loop-at-smaller-in-None
loop-at-smaller-in-None c =
    omega (arith, (asked_end c.requires.0 c.number_for-last.result c.entry_at-row.result.kind c.entry_at-row.result.id c.loop-at.at c.number_for-last.ensures c.element_end-at.ensures (entry_asked _ (schemas_in 0 c.args.sheet.now.schemas c.args.sheet.now.slots.now) _ _ c.requires.1 (schemas_top c.requires.0) c.args.sheet.now.bytes _ _ _ _ _ _ (c.loop-at.invariant.0 c.requires.1) c.loop-at-test.true _ c.entry_at-row.ensures)), taken_inside _ (schemas_in 0 c.args.sheet.now.schemas c.args.sheet.now.slots.now) _ _ c.requires.1 (schemas_top c.requires.0) c.args.sheet.now.bytes _ _ _ _ _ _ (c.loop-at.invariant.0 c.requires.1) c.loop-at-test.true _ c.entry_at-row.ensures)

pub loop-at-preserved-in-None : goal.loop-at-preserved-in-None
loop-at-preserved-in-None c = (
  (λ a. rw (c.put_row.ensures, c.put_run-n.ensures.1, no_run _ _ _ _ _ c.if-n-eq0.true) (fill_next_asked _ (schemas_in 0 c.args.sheet.now.schemas c.args.sheet.now.slots.now) _ _ a (schemas_top c.requires.0) c.args.sheet.now.bytes _ _ _ _ _ _ (c.loop-at.invariant.0 a) c.loop-at-test.true _ c.entry_at-row.ensures _ (rw c.is_stepped.ensures at c.noted_at-size.ensures) c.in-None.is
      (asked_end c.requires.0 c.number_for-last.result c.entry_at-row.result.kind c.entry_at-row.result.id c.loop-at.at c.number_for-last.ensures c.element_end-at.ensures (entry_asked _ (schemas_in 0 c.args.sheet.now.schemas c.args.sheet.now.slots.now) _ _ a (schemas_top c.requires.0) c.args.sheet.now.bytes _ _ _ _ _ _ (c.loop-at.invariant.0 a) c.loop-at-test.true _ c.entry_at-row.ensures)))),
  asked_low c.requires.0 c.number_for-last.result c.entry_at-row.result.kind c.entry_at-row.result.id c.number_for-last.ensures,
)

pub overflow_add-at : goal.overflow_add-at
overflow_add-at c =
    omega (arith, size_onward _ (schemas_in 0 c.args.sheet.now.schemas c.args.sheet.now.slots.now) _ _ c.requires.1 (schemas_top c.requires.0) c.args.sheet.now.bytes _ _ _ _ _ _ (c.loop-at.invariant.0 c.requires.1) c.loop-at-test.true _ c.entry_at-row.ensures _ (rw c.is_stepped.ensures at c.noted_at-size.ensures) _ c.in-Some.is, c.requires.0.sized)

pub loop-at-smaller-in-Some : goal.loop-at-smaller-in-Some
loop-at-smaller-in-Some c =
    omega (arith, size_onward _ (schemas_in 0 c.args.sheet.now.schemas c.args.sheet.now.slots.now) _ _ c.requires.1 (schemas_top c.requires.0) c.args.sheet.now.bytes _ _ _ _ _ _ (c.loop-at.invariant.0 c.requires.1) c.loop-at-test.true _ c.entry_at-row.ensures _ (rw c.is_stepped.ensures at c.noted_at-size.ensures) _ c.in-Some.is)

pub loop-at-preserved-in-Some : goal.loop-at-preserved-in-Some
loop-at-preserved-in-Some c =
    ((λ a. rw (c.put_row.ensures, c.put_run-n.ensures.1, no_run _ _ _ _ _ c.if-n-eq0.true) (fill_next _ (schemas_in 0 c.args.sheet.now.schemas c.args.sheet.now.slots.now) _ _ a (schemas_top c.requires.0) c.args.sheet.now.bytes _ _ _ _ _ _ (c.loop-at.invariant.0 a) c.loop-at-test.true _ c.entry_at-row.ensures _ (rw c.is_stepped.ensures at c.noted_at-size.ensures) _ c.in-Some.is)), c.loop-at.invariant.1)

pub overflow_add-rows-else-n-eq0 : goal.overflow_add-rows-else-n-eq0
overflow_add-rows-else-n-eq0 c =
    omega (arith, run_few c.put_run-n.ensures.0, c.put_run-n.ensures.0.inside, (c.loop-at.invariant.0 c.requires.1).element.few, c.requires.0.sized)

pub loop-at-preserved : goal.loop-at-preserved
loop-at-preserved c =
    ((λ a. rw c.put_run-n.ensures.1 (fill_run _ (schemas_in 0 c.args.sheet.now.schemas c.args.sheet.now.slots.now) _ _ a (schemas_top c.requires.0) c.args.sheet.now.bytes _ _ _ _ _ _ (c.loop-at.invariant.0 a) (step_ends c.requires.0 c.args.sheet.now.bytes) c.put_run-n.ensures.0 c.if-n-eq0.false)), c.loop-at.invariant.1)

pub returns : goal.returns
returns c =
    λ rs q. fill_done _ (schemas_in 0 c.args.sheet.now.schemas c.args.sheet.now.slots.now) _ _ c.requires.1 (schemas_top c.requires.0) c.args.sheet.now.bytes _ _ _ _ _ _ (c.loop-at.invariant.0 c.requires.1) c.loop-at-test.false rs q
