-- By the field that is read.
-- Assumes nothing.
use mathlib.Core.Path.{sym, ap, ◌∙◌}
use native.Mathlib.Omega.{arith}
use Rattle.wire.specs.Read.{told}
use Rattle.wire.specs.declared.error.Input.TheVariants as input
use Rattle.wire.proofs.Pieces.{about_was, about_err}
use Rattle.walk.specs.Rows.{Answer, place}
use Rattle.row.specs.Told.{told_look_up}
use Rattle.jump.specs.Lent.{found_in}
use Rattle.jump.proofs.Laws.{variable_one, handed}
use Rattle.jump.proofs.look.find_variable.Goals as goal

pub returns-in_err-f : goal.returns-in_err-f
returns-in_err-f c =
    let q = about_err {B = Answer} input.Row c.variable_at.result c.about.result c.about.ensures c.in_err-f.was in
    ap told_look_up (handed _ c.from_residual.ensures.1) ∙ q.2
    ∙ sym (ap (found_in (place c.args.walked.position c.args.walked.prefixes)) (sym c.variable_at.ensures ∙ ap told q.1))

pub overflow_add-result : goal.overflow_add-result
overflow_add-result c =
    let was = about_was input.Row c.variable_at.result c.about.result c.about.ensures c.in_ok-f.was in
    omega (arith, c.requires.1, variable_one c.args.column c.args.row.now c.args.walked.position c.requires.0 (sym c.variable_at.ensures ∙ ap told was))

pub returns : goal.returns
returns c =
    let was = about_was input.Row c.variable_at.result c.about.result c.about.ensures c.in_ok-f.was in
    sym (ap (found_in (place c.args.walked.position c.args.walked.prefixes)) (sym c.variable_at.ensures ∙ ap told was))
