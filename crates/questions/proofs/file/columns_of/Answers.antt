-- The columns in the slots that were found are the schema's.
-- Assumes nothing.
use Prim.Native.Nat.{min}
use mathlib.Core.Path.{◌≡◌, sym, ap, ◌∙◌}
use native.Mathlib.Omega.{arith}
use Rattle.std.proofs.lemmas.Result.{err_from_is_err_and}
use Rattle.column.specs.declared.columns.Columns.{Columns}
use Rattle.wire.specs.Read.{ok}
use Rattle.questions.proofs.Layouts.{columns_refused, columns_found}
use Rattle.questions.proofs.file.columns_of.Goals as goal

pub returns-in_err-block : goal.returns-in_err-block
returns-in_err-block c =
    let p = err_from_is_err_and c.from_residual.result c.from_residual.ensures.1 in
    rw (p.1, p.2) (sym (columns_refused c.args.file.now c.args.number _ (sym c.in_err-block.ensures.answers)))

pub returns : goal.returns
returns c =
    let first : min c.in_ok-block.block.start 256 ≡ c.in_ok-block.block.start = omega (arith, c.in_ok-block.ensures.slots.inside) in
    let n : min c.in_ok-block.block.count 64 ≡ c.in_ok-block.block.count = omega (arith, c.in_ok-block.ensures.slots.few) in
    ap (λ (x : Columns). ok x) (rw (first, n) at c.columns_in.ensures)
    ∙ sym (columns_found c.args.file.now c.args.number _ _ (sym c.in_ok-block.ensures.answers))
