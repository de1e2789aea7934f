-- Up to column i all fields were passed (`Passing`).
-- Assumes nothing.
use mathlib.Core.Path.{sym, ap, ◌∙◌}
use native.Mathlib.Omega.{arith}
use Rattle.shapes.proofs.Slots.{in_slots, length_slots, slot_at}
use Rattle.wire.specs.Read.{told}
use Rattle.incremental.proofs.FieldLaws.{passing_start, passing_end, asked_found, asked_passed, asked_next, half_told, slot_counted}
use Rattle.incremental.proofs.fields.pass_fields.Goals.{then-is_next+in-Ok, else-is_next}
use Rattle.incremental.proofs.fields.pass_fields.Goals as goal

pub loop-i-init : goal.loop-i-init
loop-i-init c = passing_start c.args.update (in_slots c.args.slots.now c.args.block.first c.args.block.count) c.args.bits.now c.args.j c.args.fragment.now c.args.start _ _ (omega (arith, c.min-from.ensures, length_slots c.args.slots.now c.args.block.first c.args.block.count)) c.bits_before-bit.ensures c.requires.2

pub returns-in_default : goal.returns-in_default
returns-in_default c =
    asked_found c.args.update (in_slots c.args.slots.now c.args.block.first c.args.block.count) c.args.bits.now c.args.j c.args.fragment.now c.args.start c.loop-i.invariant (omega (arith, length_slots c.args.slots.now c.args.block.first c.args.block.count, c.loop-i-test.true)) _ (half_told c.args.slots.now c.args.block.first c.args.block.count c.args.bits.now c.min-half.ensures c.map_bytes.ensures) _ (c.unpack-column.ensures ∙ sym (slot_at c.args.slots.now c.args.block.first c.args.block.count c.loop-i.i c.loop-i-test.true)) _ c.is_next.ensures c.if-is_next.true

pub loop-i-preserved : goal.loop-i-preserved
loop-i-preserved c =
    let b = (slot_counted c.args.slots.now c.args.block.first c.args.block.count c.loop-i.i c.loop-i.bit c.unpack-column.result c.loop-i-test.true c.loop-i.invariant.counted c.unpack-column.ensures c.is_nullable.ensures c.from-bit.ensures) in
    elim c.if-is_next.branch [
      | then-is_next+in-Ok w ↦
          rw w.at-is (asked_passed c.args.update (in_slots c.args.slots.now c.args.block.first c.args.block.count) c.args.bits.now c.args.j c.args.fragment.now c.args.start c.loop-i.invariant (omega (arith, length_slots c.args.slots.now c.args.block.first c.args.block.count, c.loop-i-test.true)) _ (half_told c.args.slots.now c.args.block.first c.args.block.count c.args.bits.now c.min-half.ensures c.map_bytes.ensures) _ (c.unpack-column.ensures ∙ sym (slot_at c.args.slots.now c.args.block.first c.args.block.count c.loop-i.i c.loop-i-test.true)) _ c.is_next.ensures w.if-is_next.true _ b w.in-Ok.field (sym (ap told w.in-Ok.is) ∙ w.field_at.ensures))
      | else-is_next w ↦ rw w.at-is (asked_next c.args.update (in_slots c.args.slots.now c.args.block.first c.args.block.count) c.args.bits.now c.args.j c.args.fragment.now c.args.start c.loop-i.invariant (omega (arith, length_slots c.args.slots.now c.args.block.first c.args.block.count, c.loop-i-test.true)) _ (half_told c.args.slots.now c.args.block.first c.args.block.count c.args.bits.now c.min-half.ensures c.map_bytes.ensures) _ (c.unpack-column.ensures ∙ sym (slot_at c.args.slots.now c.args.block.first c.args.block.count c.loop-i.i c.loop-i-test.true)) _ c.is_next.ensures w.if-is_next.false _ b)
    ]

pub returns : goal.returns
returns c = passing_end c.args.update (in_slots c.args.slots.now c.args.block.first c.args.block.count) c.args.bits.now c.args.j c.args.fragment.now c.args.start c.loop-i.invariant c.args.block.count (sym (length_slots c.args.slots.now c.args.block.first c.args.block.count)) c.loop-i-test.false
