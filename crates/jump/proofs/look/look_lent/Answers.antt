-- The first checks, opening, the column.
-- Assumes nothing.
use mathlib.Core.Path.{sym, ap, ◌∙◌}
use Rattle.wire.specs.Read.{told}
use Rattle.wire.specs.declared.error.Input.TheVariants as input
use Rattle.wire.proofs.Pieces.{about_was, about_err}
use Rattle.walk.specs.Rows.{Answer}
use Rattle.row.specs.Told.{told_look_up}
use Rattle.plan.specs.Plans.{lent}
use Rattle.jump.proofs.Laws.{handed}
use Rattle.jump.proofs.Answers.{row_closed, row_open}
use Rattle.jump.proofs.look.look_lent.Goals as goal

pub returns-in_err-about : goal.returns-in_err-about
returns-in_err-about c =
    let q = about_err {B = Answer} input.Row c.open_plain.result c.about.result c.about.ensures c.in_err-about.was in
    ap told_look_up (handed _ c.from_residual-in_err-about.ensures.1) ∙ q.2
    ∙ sym (row_closed (lent c.args.plan.now) c.args.row.now c.args.k tt (sym c.in_ok-check_asked.ensures) (sym c.open_plain.ensures ∙ ap told q.1))

pub returns : goal.returns
returns c =
    let was = about_was input.Row c.open_plain.result c.about.result c.about.ensures c.in_ok-about.was in
    c.look_at.ensures
    ∙ sym (row_open (lent c.args.plan.now) c.args.row.now c.args.k tt (sym c.in_ok-check_asked.ensures) _ (sym c.open_plain.ensures ∙ ap told was))
