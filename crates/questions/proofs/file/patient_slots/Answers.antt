-- The columns in the slots that were found are the schema's.
-- Assumes nothing.
use Prim.Native.Nat.{min}
use mathlib.Core.Path.{◌≡◌, sym}
use native.Mathlib.Omega.{arith}
use Rattle.std.proofs.lemmas.Result.{err_from_is_err_and}
use Rattle.questions.proofs.Layouts.{slotted_refused, slotted_found}
use Rattle.questions.proofs.file.patient_slots.Goals as goal

pub returns-in_err-block : goal.returns-in_err-block
returns-in_err-block c =
    let p = err_from_is_err_and c.from_residual.result c.from_residual.ensures.1 in
    rw (p.1, p.2) (slotted_refused c.args.file.now c.args.number _ (sym c.in_err-block.ensures.answers))

pub returns : goal.returns
returns c =
    let first : min c.in_ok-block.block.start 256 ≡ c.in_ok-block.block.start = omega (arith, c.in_ok-block.ensures.slots.inside) in
    let n : min c.in_ok-block.block.count 64 ≡ c.in_ok-block.block.count = omega (arith, c.in_ok-block.ensures.slots.few) in
    slotted_found c.args.file.now c.args.number _ _ c.in_ok-block.block.count (sym c.in_ok-block.ensures.answers) (rw (first, n) at c.slots_in.ensures) c.in_ok-block.ensures.slots.few
