-- The walk over all columns.
-- Assumes nothing.
use mathlib.Core.Path.{◌≡◌, sym, ap, ◌∙◌}
use mathlib.Core.List.{List}
use lib.ListN.{length}
use Rattle.std.proofs.lemmas.Result.{err_from_is_err_and}
use Rattle.wire.specs.Read.{Bytes}
use Rattle.column.specs.declared.column.Column.{Column}
use Rattle.column.specs.Packed.{packed_from}
use Rattle.walk.specs.Presence.{present, marks}
use Rattle.walk.specs.Rows.{place, walk, walked, row_end}
use Rattle.row.specs.Told.{told_walk}
use Rattle.walk.proofs.Laws.{end_refused, end_reached}
use Rattle.walk.proofs.Found.{walked_from}
use Rattle.walk.proofs.Arrays.{rest}
use Rattle.walk.proofs.Slots.{length_from}
use Rattle.row.proofs.rows.row_end_packed.Goals.{After-walk_row}
use Rattle.row.proofs.rows.row_end_packed.Goals as goal

walks : (a : After-walk_row) → walked (packed_from (length a.few-columns.result.now) 0 a.few-columns.result.now) a.args.row.now a.args.at (length (packed_from (length a.few-columns.result.now) 0 a.few-columns.result.now)) ≡ told_walk a.walk_row.result
walks a =
    let cs : List Column = packed_from (length a.few-columns.result.now) 0 a.few-columns.result.now in
    ap (walked cs a.args.row.now a.args.at) (length_from a.few-columns.result.now (length a.few-columns.result.now) 0)
    ∙ sym (walked_from cs a.args.row.now a.args.at (length a.few-columns.result.now) a.in_ok-start.start (sym a.in_ok-start.ensures))
    ∙ ap (λ (m : Bytes). walk (present m) a.args.row.now (length a.few-columns.result.now) (marks 0 cs) (place a.in_ok-start.start 0)) (sym (rest a.args.row.now a.args.at))
    ∙ sym a.walk_row.ensures

pub returns-in_err-walked : goal.returns-in_err-walked
returns-in_err-walked c =
    let p = err_from_is_err_and c.from_residual-in_err-walked.result c.from_residual-in_err-walked.ensures.1 in
    rw (p.1, p.2)
    (sym (end_refused (packed_from (length c.few-columns.result.now) 0 c.few-columns.result.now) c.args.row.now c.args.at _ (sym c.in_ok-start.ensures)
    (walks (goal.at.returns-in_err-walked c).After-walk_row ∙ ap told_walk c.in_err-walked.was))
    ∙ ap (λ (cs : List Column). row_end cs c.args.row.now c.args.at) c.few-columns.ensures.1)

pub returns : goal.returns
returns c =
    sym (end_reached (packed_from (length c.few-columns.result.now) 0 c.few-columns.result.now) c.args.row.now c.args.at _ (sym c.in_ok-start.ensures) _ _
    (walks (goal.at.returns c).After-walk_row ∙ ap told_walk c.in_ok-walked.was))
    ∙ ap (λ (cs : List Column). row_end cs c.args.row.now c.args.at) c.few-columns.ensures.1
