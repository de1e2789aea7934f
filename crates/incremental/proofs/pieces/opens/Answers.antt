-- Column by column (`Opening`).
-- Assumes nothing.
use mathlib.Core.Path.{sym, ◌∙◌}
use native.Mathlib.Omega.{arith}
use Rattle.shapes.proofs.Slots.{in_slots, length_slots, slot_at}
use Rattle.incremental.proofs.FieldLaws.{slot_counted}
use Rattle.incremental.proofs.PieceLaws.{opening_start, opening_next}
use Rattle.incremental.proofs.pieces.opens.Goals as goal

pub loop-i-init : goal.loop-i-init
loop-i-init c = opening_start (in_slots c.args.slots.now c.args.block.first c.args.block.count) c.args.bits.now

pub loop-i-preserved : goal.loop-i-preserved
loop-i-preserved c =
    opening_next (in_slots c.args.slots.now c.args.block.first c.args.block.count) c.args.bits.now _ c.loop-i.invariant (omega (arith, length_slots c.args.slots.now c.args.block.first c.args.block.count, c.loop-i-test.true)) (c.unpack-column.ensures ∙ sym (slot_at c.args.slots.now c.args.block.first c.args.block.count c.loop-i.i c.loop-i-test.true)) c.is_chapter_set.ensures c.if-is_chapter_set.false
    (slot_counted c.args.slots.now c.args.block.first c.args.block.count c.loop-i.i c.loop-i.bit c.unpack-column.result c.loop-i-test.true c.loop-i.invariant.counted c.unpack-column.ensures c.is_nullable.ensures c.from-bit.ensures)
