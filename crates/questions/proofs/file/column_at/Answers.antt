-- The column's slot tells its numbers, and the ids of the schemas a chapter's schema.
-- Assumes nothing.
use mathlib.Core.Path.{sym, ap, ◌∙◌}
use native.Mathlib.Omega.{arith}
use Rattle.std.proofs.lemmas.Result.{err_from_is_err_and}
use Rattle.wire.specs.Read.{refused}
use Rattle.questions.specs.Questions.{column_of}
use Rattle.questions.proofs.Questions.{select_refused, column_none, column_some}
use Rattle.questions.proofs.file.column_at.Goals as goal

pub returns-in_err-start : goal.returns-in_err-start
unfolding column_of
returns-in_err-start c =
    let p = err_from_is_err_and c.from_residual.result c.from_residual.ensures.1 in
    rw (p.1, p.2) (sym (select_refused c.args.file.now c.args.number _ _ (sym c.in_err-start.ensures.answers)))

pub returns-then-count-column : goal.returns-then-count-column
returns-then-count-column c =
    ap refused c.at_start.ensures
    ∙ sym (column_none c.args.file.now c.args.number c.args.column _ _ _ c.open_schema.new.table (sym c.in_ok-start.ensures.answers) (omega arith))

pub returns : goal.returns
returns c =
    rw (c.nested_number.ensures, c.id_in.ensures)
    (sym (column_some c.args.file.now c.args.number c.args.column _ _ _ c.open_schema.new.table (sym c.in_ok-start.ensures.answers) (omega arith)))
