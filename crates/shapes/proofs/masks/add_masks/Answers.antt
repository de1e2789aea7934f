-- The mask of presence has the bits of the columns before this one; then those of update data.
-- Assumes nothing.
use mathlib.Core.Path.{sym}
use native.Mathlib.Omega.{arith}
use Rattle.walk.proofs.Laws.{bit_zero}
use Rattle.walk.proofs.Slots.{length_from, bit_on}
use Rattle.shapes.specs.Shapes.{slice_columns}
use Rattle.shapes.proofs.MaskLaws.{bool_one, present_start, present_next, masks_top, masks_nested}
use borrow.Author.Rules.{rules}
use Rattle.shapes.proofs.masks.add_masks.Goals as goal

pub loop-slot-init : goal.loop-slot-init
loop-slot-init c = (search rules, sym (bit_zero _), present_start _)

pub loop-slot-preserved : goal.loop-slot-preserved
loop-slot-preserved c =
    let b = bit_on c.args.columns.now _ c.loop-slot.slot-index c.loop-slot.bit c.unpack-column.result c.loop-slot-test.true c.loop-slot.invariant.0
    c.loop-slot.invariant.1 c.unpack-column.ensures c.is_nullable.ensures (bool_one _ c.from-bit.ensures) in (
      b.1,
      b.0,
      present_next c.args.columns.now c.loop-slot.slot-index c.unpack-column.result c.requires.0 c.loop-slot-test.true c.unpack-column.ensures
          c.loop-slot.invariant.2 c.loop-slot.invariant.1 c.is_marked.ensures c.with_bit-present.ensures,
    )

pub returns-then-k-gt0 : goal.returns-then-k-gt0
returns-then-k-gt0 c =
    masks_nested c.args.shapes.now c.args.k c.loop-slot.present (slice_columns c.args.columns.now) c.loop-slot.slot-index c.loop-slot.invariant.2
    (omega (arith, length_from c.args.columns.now, c.loop-slot-test.false)) c.requires.1 c.add_forced.ensures

pub returns-else-k-gt0 : goal.returns-else-k-gt0
returns-else-k-gt0 c =
    masks_top c.args.shapes.now c.args.k c.loop-slot.present (slice_columns c.args.columns.now) c.loop-slot.slot-index c.loop-slot.invariant.2
    (omega (arith, length_from c.args.columns.now, c.loop-slot-test.false)) c.requires.1 (omega (arith, c.if-k-gt0.false))
