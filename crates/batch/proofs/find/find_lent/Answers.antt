-- A pass over the rows that counts and holds, and for more spans than it holds one that fills the numbers.
-- Assumes nothing.
use Prim.Native.Nat.{ℕ, ◌*◌}
use mathlib.Core.Path.{◌≡◌, sym, ap, ◌∙◌}
use mathlib.Core.List.{List}
use native.Mathlib.Omega.{arith}
use lib.ListN.{length, take}
use lib.Seq.{length-take-le}
use Rattle.wire.specs.declared.error.Input.TheVariants as input
use Rattle.wire.specs.declared.error.ErrorKind.TheVariants as error
use Rattle.std.proofs.lemmas.Result.{err_from_is_err_and}
use Rattle.wire.specs.Output.{put}
use Rattle.plan.specs.Plans.{lent}
use Rattle.batch.specs.Spans.{rows_of, spans_in, planned}
use Rattle.batch.proofs.Laid.{length_laid}
use Rattle.batch.proofs.Finding.{spans_told, spans_laid, error_told, found_large, found_refused, found_full, found_spans_lem, found_held}
use Rattle.batch.proofs.find.find_lent.Goals as goal

pub returns-then-section-gt-LIMIT : goal.returns-then-section-gt-LIMIT
returns-then-section-gt-LIMIT c =
    rw c.at_start.ensures (found_large (planned (lent c.args.plan.now) c.args.column) c.args.section.now c.args.rows.now c.args.owner c.args.spans.now c.if-section-gt-LIMIT.true)

pub returns-then-spans-n : goal.returns-then-spans-n
returns-then-spans-n c =
    let (xs, q, z) = spans_told (spans_in (planned (lent c.args.plan.now) c.args.column) c.args.section.now c.args.owner (rows_of c.args.rows.now)) c.in_ok-n.n c.scan.ensures c.in_ok-n.was in found_full (planned (lent c.args.plan.now) c.args.column) c.args.section.now c.args.rows.now c.args.owner c.args.spans.now c.if-section-gt-LIMIT.false xs q _ (c.about.ensures ∙ rw c.at.ensures (ap (λ (o : ℕ). record { kind = error.Capacity; offset = o; input = input.Output }) z)) (omega (arith, z, c.if-spans-n.true))

pub slice_bounds-copy_into-end : goal.slice_bounds-copy_into-end
slice_bounds-copy_into-end c =
    let (xs, q, z) = spans_told (spans_in (planned (lent c.args.plan.now) c.args.column) c.args.section.now c.args.owner (rows_of c.args.rows.now)) c.in_ok-n.n c.scan.ensures c.in_ok-n.was in let l : length c.scan.new.spans ≡ 512 = ap length (spans_laid xs _ c.scan.ensures c.in_ok-n.was q) ∙ length_laid 0 xs _ in sym (length-take-le (2 * c.in_ok-n.n) _ (omega (arith, l, c.if-n-le256.true)))

pub returns-then-n-le256 : goal.returns-then-n-le256
returns-then-n-le256 c =
    let (xs, q, z) = spans_told (spans_in (planned (lent c.args.plan.now) c.args.column) c.args.section.now c.args.owner (rows_of c.args.rows.now)) c.in_ok-n.n c.scan.ensures c.in_ok-n.was in found_held (planned (lent c.args.plan.now) c.args.column) c.args.section.now c.args.rows.now c.args.owner c.args.spans.now c.if-section-gt-LIMIT.false xs q _ _ c.in_ok-n.n z (omega (arith, c.if-n-le256.true)) (omega (arith, z, c.if-spans-n.false)) (c.copy_into.ensures ∙ ap (λ (x : List ℕ). put c.args.spans.now 0 (take (2 * c.in_ok-n.n) x)) (spans_laid xs _ c.scan.ensures c.in_ok-n.was q))

pub returns-in_err-n : goal.returns-in_err-n
returns-in_err-n c =
    let p = err_from_is_err_and c.from_residual.result c.from_residual.ensures.1 in
    rw (p.1, p.2)
    (found_refused (planned (lent c.args.plan.now) c.args.column) c.args.section.now c.args.rows.now c.args.owner c.args.spans.now c.if-section-gt-LIMIT.false _ (error_told (spans_in (planned (lent c.args.plan.now) c.args.column) c.args.section.now c.args.owner (rows_of c.args.rows.now)) _ c.scan.ensures c.in_err-n.was))

pub returns : goal.returns
returns c =
    let (xs, q, z) = spans_told (spans_in (planned (lent c.args.plan.now) c.args.column) c.args.section.now c.args.owner (rows_of c.args.rows.now)) c.in_ok-n.n c.scan.ensures c.in_ok-n.was in found_spans_lem (planned (lent c.args.plan.now) c.args.column) c.args.section.now c.args.rows.now c.args.owner c.args.spans.now c.if-section-gt-LIMIT.false xs q _ _ (omega (arith, z, c.if-spans-n.false)) c.scan-2.ensures
