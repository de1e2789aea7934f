-- The loop lays field after field.
-- Assumes nothing.
use native.Mathlib.Omega.{arith}
use Rattle.std.proofs.Common.{◌-◌, length, drop, length-take, length-drop}
use Rattle.column.specs.Layout.{blank_column}
use Rattle.encode.proofs.Arrays.{laying_start, laying_inside, laying_length, laying_room, laying_next, laying_end}
use Rattle.encode.proofs.row.Row.put_fields.Goals as goal

pub loop-i-init : goal.loop-i-init
loop-i-init c = laying_start _ _ _ _ _ (omega (arith, c.requires))

pub slice_bounds-put_entry-count : goal.slice_bounds-put_entry-count
slice_bounds-put_entry-count c = laying_inside _ _ _ _ c.args.out.now c.loop-i.invariant c.requires blank_column

pub slice_bounds-put_entry-start : goal.slice_bounds-put_entry-start
slice_bounds-put_entry-start c = laying_inside _ _ _ _ c.args.out.now c.loop-i.invariant c.requires blank_column

pub put_entry-position-requires : goal.put_entry-position-requires
put_entry-position-requires c =
    rw c.entry.ensures
    (omega (arith, laying_room _ _ _ _ c.args.out.now c.loop-i.invariant c.requires blank_column c.loop-i-test.true, length-take (length c.loop-i.out - c.loop-i.position) (drop c.loop-i.position c.loop-i.out), length-drop c.loop-i.position c.loop-i.out))

pub overflow_add-position : goal.overflow_add-position
overflow_add-position c =
    omega (arith, laying_room _ _ _ _ c.args.out.now c.loop-i.invariant c.requires blank_column c.loop-i-test.true, (rw c.entry.ensures at c.put_entry-position.ensures).answers, laying_length _ _ _ _ c.args.out.now c.loop-i.invariant)

pub loop-i-preserved : goal.loop-i-preserved
loop-i-preserved c =
    laying_next _ _ _ _ c.args.out.now c.loop-i.invariant c.requires blank_column c.loop-i-test.true (rw c.entry.ensures at c.put_entry-position.ensures)

pub returns : goal.returns
returns c = laying_end _ _ _ _ c.args.out.now c.loop-i.invariant c.loop-i-test.false
