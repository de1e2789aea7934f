-- The loop goes over one word more.
-- Assumes nothing.
use Prim.Native.Nat.{◌+◌, ◌*◌}
use mathlib.Core.Path.{refl, ap, ◌∙◌}
use native.Mathlib.Omega.{arith}
use lib.ListN.{get_or}
use Rattle.quick.proofs.StepLaws.{passes}
use Rattle.quick.proofs.WordLaws.{word_next, word_end}
use Rattle.quick.proofs.ends.over.Goals as goal

pub loop-i-preserved : goal.loop-i-preserved
loop-i-preserved c =
    let at = c.first_in-first.result + 2 * c.loop-i.i in
    word_next c.args.shapes.now c.args.form c.args.bits c.args.section.now c.args.fields c.loop-i.invariant c.first_in-first.ensures.0
    (omega (arith, c.loop-i-test.true, c.stops_in-i-end.ensures.0))
    (passes (get_or c.args.shapes.now at 0) (get_or c.args.shapes.now (at + 1) 0) c.args.bits c.args.section.now c.loop-i.lead c.loop-i.lengths c.bit_by-has.ensures.0 c.bit_by-has.ensures.1
    (ap (λ x. c.loop-i.lead + x) c.lead_over.ensures.0) (c.length_over-length.ensures.0 ∙ rw c.gap_in.ensures.0 refl) c.if-length-eq-TOO_LONG.false)
    (omega (arith, c.lead_over.ensures.1)) c.length_over-length.ensures.1

pub returns : goal.returns
returns c =
    word_end c.args.shapes.now c.args.form c.args.bits c.args.section.now c.args.fields c.loop-i.invariant
    (omega (arith, c.loop-i-test.false, c.stops_in-i-end.ensures.0)) (rw c.tail_in.ensures.0 refl) c.if-section-end.false
