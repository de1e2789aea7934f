-- Masks, the form of original rows, that of update data.
-- Assumes nothing.
use native.Mathlib.Omega.{arith}
use Rattle.walk.proofs.Slots.{length_from}
use Rattle.shapes.proofs.ShapesMade.{schema_top, schema_nested}
use Rattle.shapes.proofs.shapes.add_schema.Goals as goal

pub returns-then-k-gt0 : goal.returns-then-k-gt0
returns-then-k-gt0 c =
    let xs = c.args.columns.now in
    schema_nested (omega (arith, length_from xs, c.requires.0)) c.requires.1 (omega (arith, length_from xs, c.requires.3)) c.add_masks.ensures
    c.add_stops-form.ensures (omega (arith, length_from xs)) c.add_updates-changes.ensures

pub returns-else-k-gt0 : goal.returns-else-k-gt0
returns-else-k-gt0 c =
    let xs = c.args.columns.now in
    schema_top (omega (arith, length_from xs, c.requires.0)) c.requires.1 (omega (arith, length_from xs, c.requires.3)) c.add_masks.ensures
    c.add_stops-form.ensures (omega (arith, c.if-k-gt0.false))
