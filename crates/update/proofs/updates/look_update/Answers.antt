-- The size, the column number, the update data in full, the column.
-- Assumes nothing.
use mathlib.Core.Path.{sym, ap, ◌∙◌}
use mathlib.Core.List.{List}
use native.Mathlib.Omega.{arith}
use lib.ListN.{length}
use Rattle.std.proofs.lemmas.Result.{err_from_is_err_and}
use Rattle.wire.specs.declared.error.Input.TheVariants as input
use Rattle.wire.specs.Read.{told}
use Rattle.wire.proofs.Pieces.{about_was, about_err}
use Rattle.column.specs.declared.column.Column.{Column}
use Rattle.column.specs.Layout.{columns_in}
use Rattle.walk.specs.Updates.{look_update}
use Rattle.walk.proofs.Arrays.{columns_few}
use Rattle.walk.proofs.UpdateLaws.{look_update_sized, look_update_refused}
use Rattle.update.proofs.updates.look_update.Goals as goal

pub update_at-requires : goal.update_at-requires
update_at-requires c =
    let l = columns_few c.args.columns (omega arith) in
    let n = ap length c.as_slice-list.ensures in
    (omega arith, omega arith, sym c.end_of_update.ensures ∙ ap told (about_was input.Update c.end_of_update.result c.about.result c.about.ensures c.in_ok-end.was))

pub returns-in_err-end : goal.returns-in_err-end
returns-in_err-end c =
    let p = err_from_is_err_and c.from_residual.result c.from_residual.ensures.1 in
    let q = about_err input.Update c.end_of_update.result c.about.result c.about.ensures c.in_err-end.was in
    rw (p.1, p.2)
    (q.2 ∙ sym (look_update_refused c.as_slice-list.result.now c.args.update.now c.args.k (omega arith) (sym c.end_of_update.ensures ∙ ap told q.1))
    ∙ ap (λ (cs : List Column). look_update cs c.args.update.now c.args.k) c.as_slice-list.ensures
    ∙ sym (look_update_sized (columns_in c.args.columns) c.args.update.now c.args.k (omega arith)))
