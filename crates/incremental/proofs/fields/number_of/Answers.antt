-- A child's schema is searched for.
-- Assumes nothing.
use mathlib.Core.Path.{ap, ◌∙◌}
use Rattle.tree.specs.Schemas.{or0}
use Rattle.incremental.proofs.FieldLaws.{number_told, or0_told}
use Rattle.incremental.proofs.fields.number_of.Goals as goal

pub returns-in-Child : goal.returns-in-Child
returns-in-Child c = number_told c.args.sheet.now.slots.now c.args.sheet.now.schemas c.args.sheet.now.sound c.args.kind c.in-Child.id _ c.in-Child.is (c.unwrap_or.ensures ∙ or0_told c.child_number.result ∙ ap or0 (c.child_number.ensures c.args.sheet.now.sound.top c.args.sheet.now.sound.all))
