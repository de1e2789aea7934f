-- A file of one schema, or the table.
-- Assumes nothing.
use Rattle.questions.proofs.Layouts.{slotted_flat}
use Rattle.questions.proofs.file.slots_of.Goals as goal

pub returns-in-Some : goal.returns-in-Some
returns-in-Some c =
    rw c.if-number-eq0.true (slotted_flat c.args.file.now _ _ (λ i. (c.type_inv.file i).fits) c.in-Some.ensures)
