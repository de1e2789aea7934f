-- The map is whole or not; the loop goes on with the chapters that are left.
-- Assumes nothing.
use Prim.Native.Nat.{ℕ, ◌+◌, ◌/◌, ◌≤◌}
use mathlib.Core.Path.{◌≡◌, refl, sym, ap, ◌∙◌}
use native.Mathlib.Omega.{arith}
use lib.ListN.{length, drop}
use borrow.Author.Tests.{ltb-true, ltb-false}
use Rattle.wire.specs.declared.error.Input.TheVariants as input
use Rattle.wire.specs.Read.{Bytes, ok, bad}
use Rattle.wire.specs.Bits.{map_bytes}
use Rattle.column.specs.Packed.{packed_from}
use Rattle.walk.specs.Presence.{mark, mark_of, chapter_present, presence_bytes}
use Rattle.walk.proofs.Laws.{bit_zero, opened_short, opened_bad, opened_well, bits_found, bits_next, bits_end}
use Rattle.walk.proofs.Arrays.{rest}
use Rattle.walk.proofs.Slots.{length_from, marked, bit_on, no_chapter_set, one_byte}
use Rattle.wire.proofs.Laws.{told_short}
use Rattle.row.proofs.rows.open_row.Goals.{After-lacks, Else-lacks, After-is_chapter_set}
use Rattle.row.proofs.rows.open_row.Goals as goal

-- the bytes of the map
sized : (a : After-lacks) → a.map_bytes-size.result ≡ presence_bytes (packed_from (length a.args.slots.now) 0 a.args.slots.now)
unfolding presence_bytes
sized a = a.map_bytes-size.ensures ∙ ap map_bytes a.count_nullable.ensures

-- which are there
fits : (a : Else-lacks) → a.args.at + presence_bytes (packed_from (length a.args.slots.now) 0 a.args.slots.now) ≤ length a.args.row.now
unfolding presence_bytes
fits a =
    let h = ltb-false (length a.args.row.now) (a.args.at + a.map_bytes-size.result) (sym a.if-lacks.ensures) in
    let e = a.map_bytes-size.ensures ∙ ap map_bytes a.count_nullable.ensures in
    omega (arith, h, e)

-- what is asked of the column with its bit
asked : (a : After-is_chapter_set) → chapter_present (drop a.args.at a.args.row.now) (mark_of (packed_from (length a.args.slots.now) 0 a.args.slots.now) a.loop-i.i) ≡ a.is_chapter_set.result
asked a =
    marked a.args.slots.now (chapter_present (drop a.args.at a.args.row.now)) (length a.args.slots.now) a.loop-i.i _ _ a.loop-i-test.true a.unpack_slot-column.ensures
    a.loop-i.invariant.1
    (a.is_chapter_set.ensures ∙ ap (λ (m : Bytes). chapter_present m (mark a.unpack_slot-column.result a.loop-i.bit)) (rest a.args.row.now a.args.at))

pub returns-then-lacks : goal.returns-then-lacks
unfolding presence_bytes
returns-then-lacks c =
    let h = ltb-true (length c.args.row.now) (c.args.at + c.map_bytes-size.result) (sym c.if-lacks.ensures) in
    let e = c.map_bytes-size.ensures ∙ ap map_bytes c.count_nullable.ensures in
    told_short c.short.ensures ∙ sym (opened_short (packed_from (length c.args.slots.now) 0 c.args.slots.now) c.args.row.now c.args.at (omega (arith, h, e)))

pub returns-then-not-has_chapter : goal.returns-then-not-has_chapter
returns-then-not-has_chapter c =
    let e = sized (goal.at.returns-then-not-has_chapter c).After-lacks in
    sym (opened_well (packed_from (length c.args.slots.now) 0 c.args.slots.now) c.args.row.now c.args.at (fits (goal.at.returns-then-not-has_chapter c).Else-lacks)
    (no_chapter_set c.args.slots.now (drop c.args.at c.args.row.now) 12 c.args.at (length c.args.slots.now) 0 0 (λ j l. c.has_chapter.ensures c.if-not-has_chapter.true j (omega (arith, l))))
    ∙ ap (λ (n : ℕ). ok (c.args.at + n)) (sym e))

pub loop-i-init : goal.loop-i-init
loop-i-init c = (omega arith, sym (bit_zero _), refl)

pub returns-then-is_chapter_set : goal.returns-then-is_chapter_set
returns-then-is_chapter_set c =
    let m = asked (goal.at.returns-then-is_chapter_set c).After-is_chapter_set ∙ c.if-is_chapter_set.true in
    let p = ap (λ (b : ℕ). c.args.at + b / 8) (sym c.loop-i.invariant.1) in
    rw c.at.ensures
    (sym (opened_bad (packed_from (length c.args.slots.now) 0 c.args.slots.now) c.args.row.now c.args.at (fits (goal.at.returns-then-is_chapter_set c).Else-lacks)
    (c.loop-i.invariant.2
    ∙ bits_found (packed_from (length c.args.slots.now) 0 c.args.slots.now) c.args.row.now c.args.at c.loop-i.i (omega (arith, length_from c.args.slots.now (length c.args.slots.now) 0)) m
    ∙ ap (λ (o : ℕ). bad 12 o input.Single) p)))

pub loop-i-preserved : goal.loop-i-preserved
loop-i-preserved c =
    let n = length_from c.args.slots.now (length c.args.slots.now) 0 in
    let e =
    bit_on c.args.slots.now (length c.args.slots.now) c.loop-i.i c.loop-i.bit c.unpack_slot-column.result c.loop-i-test.true c.loop-i.invariant.0 c.loop-i.invariant.1
    c.unpack_slot-column.ensures c.is_nullable.ensures (c.from-bit.ensures ∙ one_byte _) in
    let m = asked (goal.at.loop-i-preserved c).After-is_chapter_set ∙ c.if-is_chapter_set.false in (
      e.1,
      e.0,
      c.loop-i.invariant.2
          ∙ bits_next (packed_from (length c.args.slots.now) 0 c.args.slots.now) c.args.row.now c.args.at c.loop-i.i (omega arith) m,
    )

pub returns : goal.returns
returns c =
    let e = sized (goal.at.returns c).After-lacks in
    sym (opened_well (packed_from (length c.args.slots.now) 0 c.args.slots.now) c.args.row.now c.args.at (fits (goal.at.returns c).Else-lacks)
    (c.loop-i.invariant.2
    ∙ bits_end (packed_from (length c.args.slots.now) 0 c.args.slots.now) c.args.row.now c.args.at c.loop-i.i (omega (arith, length_from c.args.slots.now (length c.args.slots.now) 0)))
    ∙ ap (λ (n : ℕ). ok (c.args.at + n)) (sym e))
