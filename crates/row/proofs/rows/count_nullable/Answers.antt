-- The loop counts the bits before column i.
-- Assumes nothing.
use Prim.Native.Nat.{ℕ}
use mathlib.Core.Path.{◌≡◌, refl, sym, ap, ◌∙◌}
use native.Mathlib.Omega.{arith}
use lib.ListN.{length}
use Rattle.column.specs.declared.column.Column.{Column}
use Rattle.column.specs.Columns.{is_nullable}
use Rattle.column.specs.Packed.{packed_at, packed_from}
use Rattle.walk.specs.Presence.{bit_of}
use Rattle.walk.proofs.Laws.{bit_zero, bit_all}
use Rattle.walk.proofs.Slots.{length_from, bit_on, one_byte}
use Rattle.row.proofs.rows.count_nullable.Goals as goal

pub loop-i-init : goal.loop-i-init
loop-i-init c = (omega arith, sym (bit_zero _))

pub loop-i-preserved : goal.loop-i-preserved
loop-i-preserved c =
    let l = c.loop-i in
    let x : Column = packed_at c.args.slots.now l.i in
    let n : ℕ = length c.args.slots.now in
    swapped (bit_on c.args.slots.now n l.i l.bits x c.loop-i-test.true l.invariant.0 l.invariant.1 refl refl ((cc) ∙ one_byte (is_nullable x)))
  where
    swapped : {A B : Type 0} → A × B → B × A
    swapped p = (p.1, p.0)

pub returns : goal.returns
returns c =
    let e : c.loop-i.i ≡ length (packed_from (length c.args.slots.now) 0 c.args.slots.now) = omega (arith, length_from c.args.slots.now (length c.args.slots.now) 0, c.loop-i-test.false) in
    c.loop-i.invariant.1 ∙ ap (bit_of (packed_from (length c.args.slots.now) 0 c.args.slots.now)) e ∙ bit_all _
