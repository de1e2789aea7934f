-- The masks have the bits of the columns before i.
-- Assumes nothing.
use Rattle.shapes.specs.Shapes.{slice_columns}
use Rattle.shapes.proofs.MaskLaws.{Masking}
use Rattle.shapes.proofs.masks.add_forced.Given as goal

abbrev pub invariant-loop-i : goal.invariant-loop-i
invariant-loop-i l = Masking (slice_columns l.columns) l.chapters l.unforced l.all l.i
