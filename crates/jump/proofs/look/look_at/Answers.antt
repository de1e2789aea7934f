-- Each way out is a law of a column of a row that opens.
-- Assumes nothing.
use Prim.Native.Nat.{ℕ}
use mathlib.Core.Path.{◌≡◌, sym, ap, ◌∙◌}
use Rattle.wire.specs.declared.error.Input.TheVariants as input
use Rattle.wire.proofs.Pieces.{about_was, about_err}
use Rattle.column.specs.declared.column.Column.{Column}
use Rattle.column.specs.Columns.{is_chapter}
use Rattle.walk.specs.Presence.{mark, present}
use Rattle.walk.specs.Rows.{Answer, place}
use Rattle.row.specs.Told.{told_walk, told_look_up}
use Rattle.plan.specs.Packed.{bit_in}
use Rattle.plan.specs.Plans.{planned_word, planned_column, planned_mark, lent}
use Rattle.jump.proofs.Laws.{handed}
use Rattle.jump.proofs.Answers.{answer_refused, answer_found}
use Rattle.jump.proofs.look.look_at.Goals as goal

pub returns-in_err-walked : goal.returns-in_err-walked
returns-in_err-walked c =
    let p = lent c.args.plan.now in
    let h : is_chapter (planned_column p c.args.k) ≡ c.is_chapter.result = ap is_chapter (sym c.unpack-column.ensures) ∙ sym c.is_chapter.ensures in
    let t : present c.args.row.now (planned_mark p c.args.k) ≡ c.is_present.result =
    ap (λ (d : Column). present c.args.row.now (mark d (bit_in (planned_word p c.args.k)))) (sym c.unpack-column.ensures)
    ∙ ap (λ (b : ℕ). present c.args.row.now (mark c.unpack-column.result b)) (sym c.bit_in.ensures.0)
    ∙ sym c.is_present.ensures in
    let q = about_err {B = Answer} input.Row c.jump.result c.about.result c.about.ensures c.in_err-walked.was in
    ap told_look_up (handed _ c.from_residual.ensures.1) ∙ q.2
    ∙ sym (answer_refused p c.args.row.now c.args.k (h ∙ c.if-is_chapter.false) (t ∙ c.if-not-is_present.false) (sym c.jump.ensures.answers ∙ ap told_walk q.1))

pub find_at-requires : goal.find_at-requires
find_at-requires c =
    rw (about_was input.Row c.jump.result c.about.result c.about.ensures c.in_ok-walked.was) at c.jump.ensures.small

pub returns : goal.returns
returns c =
    let p = lent c.args.plan.now in
    let h : is_chapter (planned_column p c.args.k) ≡ c.is_chapter.result = ap is_chapter (sym c.unpack-column.ensures) ∙ sym c.is_chapter.ensures in
    let t : present c.args.row.now (planned_mark p c.args.k) ≡ c.is_present.result =
    ap (λ (d : Column). present c.args.row.now (mark d (bit_in (planned_word p c.args.k)))) (sym c.unpack-column.ensures)
    ∙ ap (λ (b : ℕ). present c.args.row.now (mark c.unpack-column.result b)) (sym c.bit_in.ensures.0)
    ∙ sym c.is_present.ensures in
    let was = about_was input.Row c.jump.result c.about.result c.about.ensures c.in_ok-walked.was in
    c.find_at.ensures
    ∙ sym (answer_found p c.args.row.now c.args.k (h ∙ c.if-is_chapter.false) (t ∙ c.if-not-is_present.false) (place c.in_ok-walked.walked.position c.in_ok-walked.walked.prefixes) (sym c.jump.ensures.answers ∙ ap told_walk was))
