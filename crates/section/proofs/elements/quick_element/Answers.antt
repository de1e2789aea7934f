-- What is said of the head and of the end; or an 8C.
-- Assumes nothing.
use Rattle.section.proofs.ElementLaws.{element_said, element_deleted}
use Rattle.section.proofs.elements.quick_element.Goals as goal

pub returns-in_ok-end-in-Some : goal.returns-in_ok-end-in-Some
returns-in_ok-end-in-Some c =
    element_said c.args.sheet.now.slots.now c.args.sheet.now.shapes.now c.args.sheet.now.schemas c.args.sheet.now.section.now _ c.args.at c.in-Some.said _ c.in_ok-end-in-Some.end c.in-Some.ensures c.is_change-update.ensures c.in_ok-end-in-Some.ensures

pub returns-in-None : goal.returns-in-None
returns-in-None c =
    element_deleted c.args.sheet.now.slots.now c.args.sheet.now.shapes.now c.args.sheet.now.schemas c.args.sheet.now.section.now c.args.child c.args.at c.requires.0 (c.is_deleted.ensures c.if-is_deleted.true)
