-- The number is that of a schema.
-- Assumes nothing.
use native.Mathlib.Omega.{arith}
use Rattle.section.proofs.HeadLaws.{found_low}
use Rattle.section.proofs.children.find_child.Goals as goal

pub returns-clause-low : goal.returns-clause-low
returns-clause-low c =
    found_low c.args.sheet.now.slots.now c.args.sheet.now.schemas c.args.id c.child_number.result (omega (arith, c.requires)) (c.child_number.ensures (omega (arith, c.requires)) c.args.sheet.now.few)
