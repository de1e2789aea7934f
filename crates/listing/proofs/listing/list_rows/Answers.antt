-- The sizes, and then the section.
-- Assumes nothing.
use mathlib.Core.Path.{sym, ap, ◌∙◌}
use Rattle.wire.specs.Read.{refused}
use Rattle.section.proofs.Listing.{listed_error}
use Rattle.listing.proofs.Laws.{sheet_large, rows_large, sizes_fit}
use Rattle.listing.proofs.listing.list_rows.Goals as goal

pub returns-then-sheet_over : goal.returns-then-sheet_over
returns-then-sheet_over c =
    listed_error _ _ _ (sheet_large _ _ _ c.if-sheet_over.true ∙ sym (ap refused c.at_start.ensures))

pub returns-then-rows_over : goal.returns-then-rows_over
returns-then-rows_over c =
    listed_error _ _ _
    (rows_large _ _ _ c.if-sheet_over.false c.if-rows_over.true ∙ sym (ap refused c.at_start-then-rows_over.ensures))

pub returns : goal.returns
returns c = rw (sizes_fit _ _ _ c.if-sheet_over.false c.if-rows_over.false) c.list_section.ensures
