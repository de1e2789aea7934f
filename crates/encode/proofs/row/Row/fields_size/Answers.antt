-- The entry of each column can stand or not.
-- Assumes nothing.
use Prim.Native.Nat.{◌+◌}
use mathlib.Core.Path.{sym, ◌∙◌}
use native.Mathlib.Omega.{arith}
use Rattle.column.specs.Layout.{blank_column}
use Rattle.encode.proofs.Arrays.{fields_small, standing_start, standing_next, standing_not, standing_end}
use Rattle.encode.proofs.row.Row.fields_size.Goals as goal

pub loop-i-init : goal.loop-i-init
loop-i-init c = standing_start _ _ _ _

pub overflow_add-size : goal.overflow_add-size
overflow_add-size c =
    let r = c.args.self.now in
    let n = standing_next r.columns.now r.entries.now r.values.now _ c.loop-i.invariant blank_column c.loop-i-test.true
    (sym (rw c.entry-entry.ensures at c.stands.ensures) ∙ c.if-not-stands.false) (rw c.entry-entry.ensures at c.entry_size-size.ensures) in
    omega (arith, n.sized, n.few, r.few, fields_small r.columns.now r.entries.now r.values.now blank_column r.within (c.loop-i.i + 1) n.few)

pub loop-i-preserved : goal.loop-i-preserved
loop-i-preserved c =
    standing_next _ _ _ _ c.loop-i.invariant blank_column c.loop-i-test.true
    (sym (rw c.entry-entry.ensures at c.stands.ensures) ∙ c.if-not-stands.false) (rw c.entry-entry.ensures at c.entry_size-size.ensures)

pub returns-then-not-stands : goal.returns-then-not-stands
returns-then-not-stands c =
    rw (c.about.ensures, c.at.ensures)
    (standing_not _ _ _ _ c.loop-i.invariant blank_column c.loop-i-test.true (sym (rw c.entry-entry.ensures at c.stands.ensures) ∙ c.if-not-stands.true))

pub returns : goal.returns
returns c = standing_end _ _ _ _ c.loop-i.invariant c.loop-i-test.false
