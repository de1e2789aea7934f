-- The row does not open.
-- Assumes nothing.
use mathlib.Core.Path.{◌≡◌, sym, ap, ◌∙◌}
use mathlib.Core.List.{List}
use native.Mathlib.Omega.{arith}
use lib.ListN.{length}
use Rattle.std.proofs.lemmas.Grind.{common_steps}
use Rattle.std.proofs.lemmas.Result.{err_from_is_err_and}
use Rattle.wire.specs.declared.error.Input.TheVariants as input
use Rattle.wire.specs.Read.{told}
use Rattle.wire.proofs.Pieces.{about_was, about_err}
use Rattle.column.specs.declared.column.Column.{Column}
use Rattle.column.specs.Packed.{packed_from}
use Rattle.walk.specs.Rows.{look_up, opened}
use Rattle.walk.proofs.Laws.{look_up_sized, look_up_closed}
use Rattle.walk.proofs.Slots.{length_from}
use Rattle.row.proofs.rows.look_up_packed.Goals as goal

pub returns-in_err-start : goal.returns-in_err-start
returns-in_err-start c =
    let opened_by : opened (packed_from (length c.few-columns.result.now) 0 c.few-columns.result.now) c.args.row.now 0 ≡ told c.open_row.result = grind (arith, common_steps) in
    let p = err_from_is_err_and c.from_residual.result c.from_residual.ensures.1 in
    let q = about_err input.Row c.open_row.result c.about.result c.about.ensures c.in_err-start.was in
    let n = length_from c.few-columns.result.now (length c.few-columns.result.now) 0 in
    rw (p.1, p.2)
    (q.2 ∙ sym (look_up_closed (packed_from (length c.few-columns.result.now) 0 c.few-columns.result.now) c.args.row.now c.args.k (omega arith) (opened_by ∙ ap told q.1))
    ∙ ap (λ (cs : List Column). look_up cs c.args.row.now c.args.k) c.few-columns.ensures.1 ∙ sym (look_up_sized _ c.args.row.now c.args.k (omega arith)))

pub look_at-requires : goal.look_at-requires
look_at-requires c =
    let opened_by : opened (packed_from (length c.few-columns.result.now) 0 c.few-columns.result.now) c.args.row.now 0 ≡ told c.open_row.result = grind (arith, common_steps) in
    (omega (arith, c.few-columns.ensures), omega arith, opened_by ∙ ap told (about_was input.Row c.open_row.result c.about.result c.about.ensures c.in_ok-start.was))
