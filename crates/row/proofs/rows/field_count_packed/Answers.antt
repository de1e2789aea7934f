-- The row does not open; its fields are few.
-- Assumes nothing.
use mathlib.Core.Path.{sym, ap, ◌∙◌}
use mathlib.Core.List.{List}
use native.Mathlib.Omega.{arith}
use lib.ListN.{length}
use Rattle.std.proofs.lemmas.Result.{err_from_is_err_and}
use Rattle.wire.specs.declared.error.Input.TheVariants as input
use Rattle.wire.specs.Read.{told}
use Rattle.wire.proofs.Pieces.{about_err}
use Rattle.column.specs.declared.column.Column.{Column}
use Rattle.column.specs.Packed.{packed_from}
use Rattle.walk.specs.Rows.{field_count}
use Rattle.walk.proofs.BitCounts.{set_le}
use Rattle.walk.proofs.Laws.{bit_all, bit_few, always_few, always_end, count_closed}
use Rattle.walk.proofs.Slots.{length_from}
use Rattle.row.proofs.rows.field_count_packed.Goals as goal

pub returns-in_err-about : goal.returns-in_err-about
returns-in_err-about c =
    let p = err_from_is_err_and c.from_residual.result c.from_residual.ensures.1 in
    let q = about_err input.Row c.open_row.result c.about.result c.about.ensures c.in_err-about.was in
    rw (p.1, p.2)
    (q.2 ∙ sym (count_closed (packed_from (length c.few-columns.result.now) 0 c.few-columns.result.now) c.args.row.now (omega arith) (sym c.open_row.ensures ∙ ap told q.1))
    ∙ ap (λ (cs : List Column). field_count cs c.args.row.now) c.few-columns.ensures.1)

pub overflow_add-result : goal.overflow_add-result
overflow_add-result c =
    let cs : List Column = packed_from (length c.few-columns.result.now) 0 c.few-columns.result.now in
    let n = length_from c.few-columns.result.now (length c.few-columns.result.now) 0 in
    let a = always_few cs (length cs) in
    let b = rw (always_end cs) at a in
    omega (arith, b, n, bit_all cs, bit_few cs (length cs), c.count_nullable.ensures, c.count_always.ensures, c.count_set.ensures, set_le c.args.row.now c.count_nullable.result)
