-- The columns of the value.
-- Assumes nothing.
use mathlib.Core.Path.{ap, subst}
use mathlib.Core.Bool.{true}
use mathlib.Core.List.{List}
use native.Mathlib.Omega.{arith}
use lib.ListN.{length, length-take}
use Rattle.column.specs.declared.column.Column.{Column}
use Rattle.encode.specs.Writers.{writing, write_update, values_sized, WroteAt}
use Rattle.encode.specs.Steps.{stands_in, row_in}
use Rattle.encode.proofs.writers.write_update.Goals as goal

pub write_row-requires : goal.write_row-requires
write_row-requires c = omega (arith, ap length c.as_slice.ensures, length-take c.args.columns.count c.args.columns.columns)

pub returns : goal.returns
unfolding write_update
returns c =
    subst (λ (cs : List Column). WroteAt (values_sized c.args.values.now (writing (stands_in true) (row_in true) cs c.args.entries.now c.args.values.now (length c.args.out.now) c.args.place)) c.args.place c.args.out.now c.write_row.new.out c.write_row.result)
    c.as_slice.ensures c.write_row.ensures
