-- The masks have the bits of the columns before i.
-- Assumes nothing.
use native.Mathlib.Omega.{arith}
use Rattle.walk.proofs.Slots.{length_from}
use Rattle.shapes.specs.Shapes.{slice_columns}
use Rattle.shapes.proofs.MaskLaws.{mask_next, mask_end}
use Rattle.shapes.proofs.masks.add_forced.Goals as goal

pub loop-i-preserved : goal.loop-i-preserved
loop-i-preserved c =
    mask_next c.args.columns.now c.loop-i.i c.unpack-column.result c.requires.0 c.loop-i-test.true c.unpack-column.ensures c.loop-i.invariant
    c.is_chapter.ensures c.with_bit-chapters.ensures c.is_unforced.ensures c.with_bit-unforced.ensures c.with_bit-all.ensures

pub returns : goal.returns
returns c =
    mask_end c.args.shapes.now c.args.k c.loop-i.chapters c.loop-i.unforced c.loop-i.all (slice_columns c.args.columns.now) c.loop-i.i c.loop-i.invariant
    (omega (arith, length_from c.args.columns.now, c.loop-i-test.false)) (omega (arith, c.requires))
