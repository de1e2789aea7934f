-- The loop goes on with one more column, a stop or not.
-- Assumes nothing.
use mathlib.Core.Path.{ap, sym, ◌∙◌}
use mathlib.Core.Bool.{Bool}
use native.Mathlib.Omega.{arith}
use lib.Dec.{ltb}
use lib.ListN.{length, get_or}
use Rattle.wire.specs.Read.{pick}
use Rattle.column.proofs.Stops.{width_few}
use Rattle.walk.proofs.Slots.{length_from, column_from}
use Rattle.shapes.specs.Shapes.{slice_columns, bit_mask}
use Rattle.shapes.proofs.MaskLaws.{bool_one}
use Rattle.shapes.proofs.StopsMade.{one_most, grow_start, grow_stop, grow_plain, grow_fits, grow_end}
use Rattle.shapes.proofs.shapes.add_stops.Goals as goal
use Rattle.shapes.proofs.shapes.add_stops.Goals.{then-is_stop, else-is_stop}

pub loop-slot-init : goal.loop-slot-init
loop-slot-init c = grow_start (slice_columns c.args.columns.now) c.args.next c.args.shapes.now

pub overflow_add-gap : goal.overflow_add-gap
overflow_add-gap c =
    omega (arith, c.requires, c.loop-slot-test.true, c.loop-slot.invariant.few_gap, c.width-gap.ensures, width_few c.unpack-column.result)

pub loop-slot-preserved : goal.loop-slot-preserved
loop-slot-preserved c =
    let xs = c.args.columns.now in
    let i = c.loop-slot.slot-index in
    let here = c.unpack-column.ensures ∙ sym (column_from xs _ i c.loop-slot-test.true) in
    let bit = bool_one _ c.from-bit.ensures ∙ ap (λ (b : Bool). Rattle.walk.specs.Presence.one b) c.is_nullable-free.ensures in
    elim c.if-is_stop.branch [
      | then-is_stop w ↦
          rw (w.shapes-is, w.stops-is, w.gap-is)
          (grow_stop c.loop-slot.invariant (omega (arith, length_from xs, c.loop-slot-test.true)) c.unpack-column.result here bit
          (sym c.is_stop.ensures ∙ w.if-is_stop.true) (get_or xs i 0) c.unpack-column.ensures (rw (← c.is_nullable-free.ensures) w.stop_word.ensures)
          (w.stop_mask.ensures ∙ ap (λ (b : Bool). bit_mask (pick b c.loop-slot.bit 63)) c.is_nullable-free.ensures) (omega (arith, c.requires, length_from xs))
          (omega (arith, c.requires, c.loop-slot-test.true, c.loop-slot.invariant.few_stops, c.loop-slot.invariant.said.long)))
      | else-is_stop w ↦
          rw (w.shapes-is, w.stops-is, w.gap-is)
          (grow_plain c.loop-slot.invariant (omega (arith, length_from xs, c.loop-slot-test.true)) c.unpack-column.result here bit
          (sym c.is_stop.ensures ∙ w.if-is_stop.false) w.width-gap.ensures)
    ]

pub form_of-requires : goal.form_of-requires
form_of-requires c =
    let (n, s, b, g) = grow_fits c.loop-slot.invariant (omega (arith, length_from c.args.columns.now, c.requires)) (omega (arith, length_from c.args.columns.now, c.requires)) c.map_bytes.ensures in
    (n, s, b, g, omega (arith, bool_one (ltb c.loop-slot.bit (length c.args.columns.now)) c.from.ensures, one_most (ltb c.loop-slot.bit (length c.args.columns.now))))

pub returns : goal.returns
returns c =
    grow_end c.loop-slot.invariant (omega (arith, length_from c.args.columns.now, c.requires)) (omega (arith, length_from c.args.columns.now, c.requires)) c.map_bytes.ensures
    (omega (arith, length_from c.args.columns.now, c.loop-slot-test.false)) (omega (arith, length_from c.args.columns.now, c.requires, c.loop-slot.invariant.said.long))
    (rw length_from (bool_one _ c.from.ensures)) c.form_of.ensures
