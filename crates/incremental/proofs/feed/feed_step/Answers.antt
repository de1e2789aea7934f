-- What a record says, then the schema file, then the fragment.
-- Assumes nothing.
use mathlib.Core.Path.{sym, ◌∙◌}
use native.Mathlib.Omega.{arith}
use Rattle.feeding.specs.Answers.{fragment}
use Rattle.incremental.proofs.FeedLaws.{call_stands, call_unfit, call_refused, call_read, fits_sane, fed_by}
use Rattle.incremental.proofs.feed.feed_step.Goals as goal

pub returns-then-reader-ge-REFUSED : goal.returns-then-reader-ge-REFUSED
returns-then-reader-ge-REFUSED c = fed_by c.args.file.now c.args.reader c.args.fragment.now _ (call_stands c.args.reader c.args.file.now (fragment c.args.fragment.now) c.if-reader-ge-REFUSED.true) c.stand.ensures

pub returns-then-not-is_fit : goal.returns-then-not-is_fit
returns-then-not-is_fit c = fed_by c.args.file.now c.args.reader c.args.fragment.now _ (call_unfit c.args.reader c.args.file.now (fragment c.args.fragment.now) c.if-reader-ge-REFUSED.false (sym c.is_fit.ensures ∙ c.if-not-is_fit.true)) c.unknown_reader.ensures

pub returns-in-Err : goal.returns-in-Err
returns-in-Err c =
    fed_by c.args.file.now c.args.reader c.args.fragment.now _ (call_refused c.args.reader c.args.file.now (fragment c.args.fragment.now) c.if-reader-ge-REFUSED.false (sym c.is_fit.ensures ∙ c.if-not-is_fit.false) c.in-Err.e c.in-Err.ensures) c.refuse.ensures

pub feed_any-requires : goal.feed_any-requires
feed_any-requires c =
    let o = c.in-Ok.ensures in
    let s = fits_sane c.args.reader c.if-reader-ge-REFUSED.false (sym c.is_fit.ensures ∙ c.if-not-is_fit.false) in
    (record { sound = o.sound; columns = omega (arith, o.columns); few = o.few }, s.0, s.1)

pub returns-in-Ok : goal.returns-in-Ok
returns-in-Ok c =
    fed_by c.args.file.now c.args.reader c.args.fragment.now _ (call_read c.args.reader c.args.file.now (fragment c.args.fragment.now) c.if-reader-ge-REFUSED.false (sym c.is_fit.ensures ∙ c.if-not-is_fit.false) _ c.in-Ok.ensures.reads) (c.tell.ensures _ c.feed_any.ensures)
