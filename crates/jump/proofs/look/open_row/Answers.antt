-- The row's size, then the map.
-- Assumes nothing.
use mathlib.Core.Path.{sym, ap, ◌∙◌}
use Rattle.wire.specs.Read.{about}
use Rattle.wire.specs.declared.error.Input.TheVariants as input
use Rattle.jump.proofs.Handled.{opened_open}
use Rattle.jump.proofs.look.open_row.Goals as goal

pub returns : goal.returns
returns c = c.about.ensures ∙ ap (about input.Row) c.open_map.ensures ∙ sym (opened_open c.args.plan c.args.row.now c.if-row-gt-LIMIT.false)
