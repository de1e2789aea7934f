-- The loop counts over the columns before i.
-- Assumes nothing.
use Prim.Native.Nat.{ℕ, ◌<◌, ◌+◌}
use mathlib.Core.Path.{◌≡◌, sym, ap, ◌∙◌}
use mathlib.Core.List.{List}
use native.Mathlib.Omega.{arith}
use lib.ListN.{length, take}
use Rattle.wire.specs.Read.{pick}
use Rattle.column.specs.declared.column.Column.{Column}
use Rattle.column.specs.Columns.{is_chapter, is_nullable}
use Rattle.column.specs.Packed.{packed_from}
use Rattle.walk.specs.Rows.{always}
use Rattle.walk.proofs.Laws.{always_zero, always_one, always_few, always_end}
use Rattle.walk.proofs.Slots.{length_from, asked, always_byte}
use Rattle.row.proofs.rows.count_always.Goals as goal

pub loop-i-init : goal.loop-i-init
loop-i-init c = (omega arith, sym (always_zero (packed_from (length c.args.slots.now) 0 c.args.slots.now)))

pub loop-i-preserved : goal.loop-i-preserved
loop-i-preserved c =
    let l = c.loop-i in
    let n : ℕ = length c.args.slots.now in
    let cs : List Column = packed_from n 0 c.args.slots.now in
    let h : l.i < length cs = omega (arith, length_from c.args.slots.now n 0, c.loop-i-test.true) in
    let o = c.from-count.ensures ∙ always_byte c.unpack_slot.result c.is_always.ensures in
    let e = always_one cs l.i h (asked c.args.slots.now (λ (x : Column). pick (is_chapter x) 0 (pick (is_nullable x) 0 1)) n l.i c.unpack_slot.result c.loop-i-test.true c.unpack_slot.ensures o) in
    let f = always_few cs (l.i + 1) in
    (omega (arith, e, f, l.invariant.1), omega (arith, e, l.invariant.1))

pub returns : goal.returns
returns c =
    let n : ℕ = length c.args.slots.now in
    let cs : List Column = packed_from n 0 c.args.slots.now in
    let e : c.loop-i.i ≡ length cs = omega (arith, length_from c.args.slots.now n 0, c.loop-i-test.false, c.loop-i.auto.i-end) in
    c.loop-i.invariant.1 ∙ ap (λ (j : ℕ). always (take j cs)) e ∙ always_end cs
