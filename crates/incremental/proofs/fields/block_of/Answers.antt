-- The slot of the schema says where its columns stand.
-- Assumes nothing.
use mathlib.Core.Path.{refl}
use Rattle.incremental.proofs.FieldLaws.{block_told}
use Rattle.incremental.specs.Parts.{kind_told}
use Rattle.incremental.proofs.fields.block_of.Goals as goal

pub returns : goal.returns
returns c = block_told c.args.sheet.now.slots.now c.args.sheet.now.schemas c.args.sheet.now.sound (kind_told c.args.kind) _ _ c.number_of.ensures.0 refl refl
