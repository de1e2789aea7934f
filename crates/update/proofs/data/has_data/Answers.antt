-- By the kind of data.
-- Assumes nothing.
use mathlib.Core.Path.{ap, ◌∙◌}
use mathlib.Core.List.{List}
use lib.ListN.{length, get_or}
use Rattle.wire.specs.Bits.{map_bytes}
use Rattle.column.specs.declared.column.Column.{Column}
use Rattle.column.specs.Layout.{columns_in}
use Rattle.walk.specs.Presence.{no_column}
use Rattle.walk.specs.Updates.{update_bytes}
use Rattle.walk.proofs.Data.{has_carried, has_present}
use Rattle.update.proofs.data.has_data.Goals as goal

pub returns-then-update : goal.returns-then-update
unfolding update_bytes
returns-then-update c =
    λ h.
    let e = c.as_slice-list.ensures in
    rw c.if-update.true
    (has_carried (columns_in c.args.columns) c.args.s.now c.args.start c.args.i h c.min-from.ensures (ap (λ (cs : List Column). get_or cs c.args.i no_column) e)
    (c.map_bytes.ensures ∙ ap (λ (cs : List Column). map_bytes (length cs)) e) c.min-force.ensures c.is_carried.ensures)

pub returns : goal.returns
returns c = λ h. rw c.if-update.false (has_present (columns_in c.args.columns) c.args.s.now c.args.start c.args.i h c.min-from.ensures (c.has_field.ensures h))
