-- By the columns that the slots hold.
-- Assumes nothing.
use mathlib.Core.Path.{ap, ◌∙◌}
use mathlib.Core.List.{List}
use lib.ListN.{get_or}
use Rattle.column.specs.declared.column.Column.{Column}
use Rattle.walk.specs.Rows.{row_end}
use Rattle.walk.specs.Updates.{update_end}
use Rattle.tree.specs.Table.{schema_slot, start_in, count_in}
use Rattle.shapes.proofs.Slots.{columns_held}
use Rattle.section.proofs.EndLaws.{packed_held}
use Rattle.section.proofs.ends.data_end.Goals as goal

pub returns-then-update : goal.returns-then-update
returns-then-update c =
    rw c.if-update.true
    (c.update_end.ensures
    ∙ ap (λ (cs : List Column). update_end cs c.args.section.now c.args.start)
    (columns_held c.args.slots.now (start_in (get_or c.args.slots.now (schema_slot c.args.number) 0)) (count_in (get_or c.args.slots.now (schema_slot c.args.number) 0)) c.requires.inside c.requires.few c.columns_in.ensures))

pub returns : goal.returns
returns c =
    rw c.if-update.false
    (c.row_end_packed.ensures
    ∙ ap (λ (cs : List Column). row_end cs c.args.section.now c.args.start)
    (packed_held c.args.slots.now _ (start_in (get_or c.args.slots.now (schema_slot c.args.number) 0)) (count_in (get_or c.args.slots.now (schema_slot c.args.number) 0)) c.requires.inside c.requires.few c.slots_in.array_long c.slots_in.ensures))
