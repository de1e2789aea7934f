-- The loop goes on with one more column, a stop or not.
-- Assumes nothing.
use mathlib.Core.Path.{◌≡◌, refl, sym}
use native.Mathlib.Omega.{arith}
use lib.ListN.{length}
use Rattle.std.proofs.lemmas.Grind.{common_steps}
use Rattle.column.specs.Packed.{packed_from}
use Rattle.column.proofs.Stops.{width_few}
use Rattle.walk.specs.Presence.{one}
use Rattle.walk.proofs.Slots.{length_from, one_byte}
use Rattle.plan.proofs.Fill.{fill_start, fill_stop, mask_room, fill_plain, fill_end}
use Rattle.plan.proofs.make.fill.Goals as goal
use Rattle.plan.proofs.make.fill.Goals.{then-is_stop, else-is_stop}

pub loop-i-init : goal.loop-i-init
loop-i-init c =
    fill_start (packed_from (length c.args.slots.now) 0 c.args.slots.now) (omega (arith, length_from c.args.slots.now, c.requires.0)) c.requires.1 c.requires.2

pub number_of-requires : goal.number_of-requires
number_of-requires c = (
  c.width-size.ensures,
  omega (arith, c.width-size.ensures, width_few c.unpack_slot-column.result),
  omega (arith, c.loop-i.invariant.gap_few, c.loop-i-test.true, c.requires.0),
  omega (arith, c.loop-i.invariant.bit_few, c.loop-i-test.true, c.requires.0),
  omega (arith, c.loop-i.invariant.stops_few, c.loop-i-test.true, c.requires.0),
)

pub overflow_add-mask : goal.overflow_add-mask
overflow_add-mask c =
    omega (arith, mask_room c.args.slots.now (length c.args.slots.now) c.requires.0 c.loop-i.invariant (omega (arith, c.loop-i-test.true)) c.unpack_slot-column.result (grind (arith, common_steps)) c.number_of.result c.number_of.ensures c.is_nullable-nullable.result c.is_nullable-nullable.ensures (one c.is_nullable-nullable.result) refl c.is_stop.ensures c.if-is_stop.false c.chapter_bit-mask.ensures)

pub overflow_add-gap : goal.overflow_add-gap
overflow_add-gap c =
    omega (arith, c.width-size.ensures, width_few c.unpack_slot-column.result, c.loop-i.invariant.gap_few, c.loop-i-test.true, c.requires.0)

pub loop-i-preserved : goal.loop-i-preserved
loop-i-preserved c =
    let bit : c.from-bit.result ≡ one c.is_nullable-nullable.result = rw c.from-bit.ensures (one_byte c.is_nullable-nullable.result) in
    elim c.if-is_stop.branch [
      | then-is_stop w ↦
          rw (w.numbers-is, w.gap-is, w.stops-is, w.first-is, w.mask-is)
          (fill_stop c.args.slots.now (length c.args.slots.now) c.requires.0 c.loop-i.invariant (omega (arith, c.loop-i-test.true)) c.unpack_slot-column.result (grind (arith, common_steps)) c.number_of.result c.number_of.ensures c.is_nullable-nullable.result c.is_nullable-nullable.ensures c.from-bit.result bit c.is_stop.ensures w.if-is_stop.true w.stop_sized.result (w.stop_sized.ensures c.width-size.ensures) w.first_of-first.ensures)
      | else-is_stop w ↦
          rw (w.numbers-is, w.gap-is, w.stops-is, w.first-is, w.mask-is)
          (fill_plain c.args.slots.now (length c.args.slots.now) c.requires.0 c.loop-i.invariant (omega (arith, c.loop-i-test.true)) c.unpack_slot-column.result (grind (arith, common_steps)) c.number_of.result c.number_of.ensures c.is_nullable-nullable.result c.is_nullable-nullable.ensures c.from-bit.result bit c.is_stop.ensures w.if-is_stop.false w.chapter_bit-mask.ensures c.width-size.ensures)
    ]

pub returns : goal.returns
returns c =
    fill_end (packed_from (length c.args.slots.now) 0 c.args.slots.now) c.loop-i.invariant (omega (arith, length_from c.args.slots.now, c.loop-i-test.false)) (sym (length_from c.args.slots.now (length c.args.slots.now) 0)) c.requires.1
