-- The sizes, and then the schema file.
-- Assumes nothing.
use mathlib.Core.Path.{ap, ◌∙◌}
use Rattle.tree.specs.Filling.{fill_file}
use Rattle.section.proofs.Listing.{file_large, section_large}
use Rattle.section.proofs.Opening.{opened}
use Rattle.section.proofs.check.read_schemas.Goals as goal

pub returns-then-file-gt-LIMIT : goal.returns-then-file-gt-LIMIT
returns-then-file-gt-LIMIT c = rw c.at_start.ensures (file_large _ _ c.if-file-gt-LIMIT.true)

pub returns-then-section-gt-LIMIT : goal.returns-then-section-gt-LIMIT
returns-then-section-gt-LIMIT c =
    rw c.at_start-then-section-gt-LIMIT.ensures (section_large _ _ c.if-file-gt-LIMIT.false c.if-section-gt-LIMIT.true)

pub returns : goal.returns
returns c =
    opened _ _ _ (λ i. (c.shared_slice_known-1.given i).fits) c.if-file-gt-LIMIT.false c.if-section-gt-LIMIT.false c.read_file.result _ (c.read_file.ensures ∙ ap (fill_file c.args.file.now) c.requires) c.about.ensures
