-- The number that was found, or none.
-- Assumes nothing.
use Prim.Native.Nat.{ℕ}
use mathlib.Core.Path.{◌≡◌, refl, sym, ap, ◌∙◌}
use lib.ListN.{replicate}
use Rattle.std.specs.Prelude.{Option, Some, None}
use Rattle.std.specs.Option.{ok_or}
use Rattle.std.proofs.lemmas.Result.{err_from_is_err_and}
use Rattle.wire.specs.declared.error.ErrorKind.TheVariants.{Missing}
use Rattle.wire.specs.declared.error.Input.TheVariants.{ChildId}
use Rattle.wire.specs.Read.{told}
use Rattle.tree.proofs.Filled.{schemas_refused, schemas_read, some_schema}
use Rattle.schema.specs.Children.{told_child}
use Rattle.schema.proofs.Named.{named_read, named_refused}
use Rattle.questions.specs.Questions.{found_child}
use Rattle.questions.proofs.Questions.{child_refused, child_read}
use Rattle.questions.proofs.file.child_schema.Goals as goal

found : (o : Option ℕ) → told (ok_or o (record { kind = Missing; offset = 0; input = ChildId })) ≡ found_child (told_child o)
found None = refl
found (Some n) = refl

pub returns-in_err-p : goal.returns-in_err-p
returns-in_err-p c =
    let p = err_from_is_err_and c.from_residual.result c.from_residual.ensures.1 in
    let (d, f, g) = named_refused _ c.read_file.result c.about.result c.read_file.new.table c.read_file.ensures c.about.ensures {A = ℕ} c.in_err-p.was in
    rw (p.1, p.2, g) (sym (child_refused c.args.file.now c.args.id d (schemas_refused c.args.file.now (replicate 512 0) (λ i. (c.type_inv.file i).fits) refl d f)))

pub returns : goal.returns
returns c =
    let h = named_read _ c.read_file.result c.about.result c.read_file.new.table c.read_file.ensures c.about.ensures c.in_ok-p.was in
    let k = some_schema c.args.file.now (replicate 512 0) (λ i. (c.type_inv.file i).fits) refl _ h in
    rw (c.ok_or.ensures.value, c.at_start.ensures)
    (found c.child_number.result
    ∙ ap found_child (rw c.from.ensures at (c.child_number.ensures k.0 k.1))
    ∙ sym (child_read c.args.file.now c.args.id _ (schemas_read c.args.file.now (replicate 512 0) (λ i. (c.type_inv.file i).fits) refl _ h)))
