-- What a record says, then the schema file, then whether the section is complete.
-- Assumes nothing.
use mathlib.Core.Path.{◌≡◌, sym, ◌∙◌}
use lib.ListN.{length}
use borrow.Author.Rules.{rules}
use Rattle.feeding.specs.Answers.{close}
use Rattle.incremental.proofs.FeedLaws.{call_stands, call_unfit, call_refused, call_read, ending_complete, ending_short, fits_sane, closed_by}
use Rattle.incremental.proofs.feed.close_step.Goals as goal

pub returns-then-reader-ge-REFUSED : goal.returns-then-reader-ge-REFUSED
returns-then-reader-ge-REFUSED c = closed_by c.args.file.now c.args.reader _ (call_stands c.args.reader c.args.file.now close c.if-reader-ge-REFUSED.true) c.stand.ensures

pub returns-then-not-is_fit : goal.returns-then-not-is_fit
returns-then-not-is_fit c = closed_by c.args.file.now c.args.reader _ (call_unfit c.args.reader c.args.file.now close c.if-reader-ge-REFUSED.false (sym c.is_fit.ensures ∙ c.if-not-is_fit.true)) c.unknown_reader.ensures

pub returns-in-Err : goal.returns-in-Err
returns-in-Err c =
    closed_by c.args.file.now c.args.reader _ (call_refused c.args.reader c.args.file.now close c.if-reader-ge-REFUSED.false (sym c.is_fit.ensures ∙ c.if-not-is_fit.false) c.in-Err.e c.in-Err.ensures) c.refuse.ensures

pub returns-then-reader-eq-FINISHED : goal.returns-then-reader-eq-FINISHED
returns-then-reader-eq-FINISHED c =
    closed_by c.args.file.now c.args.reader _ (call_read c.args.reader c.args.file.now close c.if-reader-ge-REFUSED.false (sym c.is_fit.ensures ∙ c.if-not-is_fit.false) _ c.in_default.ensures.reads ∙ ending_complete c.args.reader c.if-reader-eq-FINISHED.true) c.complete.ensures

pub total-requires : goal.total-requires
total-requires c = fits_sane c.args.reader c.if-reader-ge-REFUSED.false (sym c.is_fit.ensures ∙ c.if-not-is_fit.false)

pub returns : goal.returns
returns c =
    let l : length c.args.reader.held ≡ 16 = search rules in
    let s = fits_sane c.args.reader c.if-reader-ge-REFUSED.false (sym c.is_fit.ensures ∙ c.if-not-is_fit.false) in
    closed_by c.args.file.now c.args.reader _ (call_read c.args.reader c.args.file.now close c.if-reader-ge-REFUSED.false (sym c.is_fit.ensures ∙ c.if-not-is_fit.false) _ c.in_default.ensures.reads ∙ ending_short c.args.reader _ c.total.ensures c.if-reader-ge-REFUSED.false c.if-reader-eq-FINISHED.false l s.0)
    (rw (c.about.ensures, c.short.ensures) at c.refuse-2.ensures)
