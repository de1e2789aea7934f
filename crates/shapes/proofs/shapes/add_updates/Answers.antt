-- The loop goes on with one more word.
-- Assumes nothing.
use mathlib.Core.Path.{sym, ◌∙◌}
use native.Mathlib.Omega.{arith}
use lib.ListN.{get_or}
use Rattle.walk.proofs.Laws.{map_few}
use Rattle.walk.proofs.Slots.{length_from, column_from}
use Rattle.shapes.specs.Shapes.{slice_columns}
use Rattle.shapes.proofs.StopsMade.{updates_next, updates_end}
use borrow.Author.Rules.{rules}
use Rattle.shapes.proofs.shapes.add_updates.Goals as goal

pub loop-i-preserved : goal.loop-i-preserved
loop-i-preserved c =
    let xs = c.args.columns.now in
    let i = c.loop-i.i in
    updates_next (slice_columns xs) c.args.next (get_or xs i 0) c.loop-i.invariant (omega (arith, length_from xs, c.loop-i-test.true))
    (omega (arith, length_from xs, c.requires)) (omega (arith, c.requires, c.loop-i-test.true, c.loop-i.invariant.long))
    (c.unpack-column.ensures ∙ sym (column_from xs _ i c.loop-i-test.true)) c.unpack-column.ensures c.stop_word.ensures c.stop_mask.ensures

pub form_of-requires : goal.form_of-requires
form_of-requires c =
    (omega (arith, c.requires), omega (arith, c.requires), omega (arith, c.requires, c.map_bytes.ensures, map_few), search rules, search rules)

pub returns : goal.returns
returns c =
    let xs = c.args.columns.now in
    updates_end (slice_columns xs) c.args.next {i = c.loop-i.i} {bytes = c.map_bytes.result} {form = c.form_of.result} c.loop-i.invariant
    (omega (arith, length_from xs, c.loop-i-test.false)) (omega (arith, length_from xs, c.requires)) (omega (arith, length_from xs, c.requires))
    (omega (arith, length_from xs, c.requires, c.loop-i.invariant.long)) (rw length_from c.map_bytes.ensures) (rw length_from c.form_of.ensures)
