-- The file ends behind its columns.
-- Assumes nothing.
use mathlib.Core.Path.{◌≡◌, refl, sym}
use native.Mathlib.Omega.{arith}
use Rattle.std.specs.Prelude.{Result, Ok, Err, Some}
use Rattle.std.specs.Result.{result_ok}
use Rattle.wire.specs.declared.error.Error.{Error}
use Rattle.entry.specs.declared.number.Number.{Number}
use Rattle.entry.proofs.Heads.{InRange, range_inside}
use Rattle.schema.proofs.Flatly.{flat_end}
use Rattle.schema.proofs.flat.read_flat.Goals.{In_ok-count}
use Rattle.schema.proofs.flat.read_flat.Goals as goal

was : (r : Result Number Error) {n : Number} → Some n ≡ result_ok r → r ≡ Ok n
was (Ok m) e = cc
was (Err d) e = cc

count : (c : In_ok-count) → InRange 1 64 c.args.file.now 0 c.in_ok-count.field-0.value c.in_ok-count.field-0.end
count c = range_inside 1 64 c.args.file.now 0 (rw (was c.range_at.result c.in_ok-count.ensures.value) at (sym c.range_at.ensures))

pub overflow_mul-count : goal.overflow_mul-count
overflow_mul-count c = omega (arith, (count c).most)

pub overflow_sub-file : goal.overflow_sub-file
overflow_sub-file c = (count (goal.at.overflow_sub-file c).In_ok-count).inside

pub read_run-run-requires : goal.read_run-run-requires
read_run-run-requires c = let r = count (goal.at.read_run-run-requires c).In_ok-count in (r.inside, r.most, refl)

pub returns : goal.returns
returns c =
    let r = count (goal.at.returns c).In_ok-count in
    flat_end c.args.file.now c.in_ok-count.field-0.value c.in_ok-count.field-0.end c.read_run-run.result (omega (arith, c.if-file-gt-LIMIT.false))
    (rw (was c.range_at.result c.in_ok-count.ensures.value) at (sym c.range_at.ensures))
    r.least r.most c.read_run-run.ensures (omega (arith, c.if-run-count.false)) (omega (arith, c.if-run-file.false))
