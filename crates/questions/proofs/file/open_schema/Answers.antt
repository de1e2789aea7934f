-- The schema's block in the table tells its columns.
-- Assumes nothing.
use Prim.Native.Nat.{◌<◌}
use mathlib.Core.Path.{◌≡◌, sym, ap, ◌∙◌}
use native.Mathlib.Omega.{arith}
use Rattle.std.proofs.lemmas.Result.{err_from_is_err_and}
use Rattle.wire.specs.Read.{ok, refused}
use Rattle.tree.specs.Tree.{most_file_columns}
use Rattle.tree.specs.Filling.{fill_file}
use Rattle.schema.specs.Told.{placed}
use Rattle.questions.specs.Questions.{selected_of, Selected}
use Rattle.tree.proofs.Filled.{schemas_refused, schemas_read, slots_of, some_schema}
use Rattle.schema.proofs.Named.{named_read, named_refused}
use Rattle.questions.proofs.Questions.{with_refused, with_missing, with_found}
use Rattle.questions.proofs.file.open_schema.Goals.{In_ok-p}
use Rattle.questions.proofs.file.open_schema.Goals as goal

-- the file was read
read : (c : In_ok-p) → fill_file c.args.file.now c.args.table.now ≡ ok (placed c.in_ok-p.p c.read_file.new.table)
read c = named_read _ c.read_file.result c.about.result c.read_file.new.table c.read_file.ensures c.about.ensures c.in_ok-p.was

-- the number of a schema that was found has a slot
few : (c : In_ok-p) → c.args.number < c.in_ok-p.p.schemas → c.args.number < most_file_columns
few c h = omega (arith, (some_schema c.args.file.now c.args.table.now (λ i. (c.type_inv.file i).fits) c.requires _ (read c)).1, h)

pub returns-in_err-p : goal.returns-in_err-p
unfolding selected_of
returns-in_err-p c =
    let p = err_from_is_err_and c.from_residual.result c.from_residual.ensures.1 in
    let (d, f, g) = named_refused _ c.read_file.result c.about.result c.read_file.new.table c.read_file.ensures c.about.ensures {A = Selected} c.in_err-p.was in
    rw (p.1, p.2)
    (record {
      answers = g ∙ sym (with_refused c.args.file.now c.args.number _ d (schemas_refused c.args.file.now c.args.table.now (λ i. (c.type_inv.file i).fits) c.requires d f));
      slots = tt;
    })

pub returns-then-schemas-number : goal.returns-then-schemas-number
unfolding selected_of
returns-then-schemas-number c =
    let h = read (goal.at.returns-then-schemas-number c).In_ok-p in
    record {
      answers = ap refused c.at_start.ensures ∙ sym (with_missing c.args.file.now c.args.number _ _ c.read_file.new.table (schemas_read c.args.file.now c.args.table.now (λ i. (c.type_inv.file i).fits) c.requires _ h) c.if-schemas-number.true);
      slots = tt;
    }

pub returns : goal.returns
unfolding selected_of
returns c =
    let h = read (goal.at.returns c).In_ok-p in
    record {
      answers = sym (with_found c.args.file.now c.args.number _ _ c.read_file.new.table (schemas_read c.args.file.now c.args.table.now (λ i. (c.type_inv.file i).fits) c.requires _ h) c.if-schemas-number.false);
      slots = slots_of c.args.file.now c.args.table.now (λ i. (c.type_inv.file i).fits) c.requires _ h c.args.number c.if-schemas-number.false;
    }

pub overflow_add-slot : goal.overflow_add-slot
overflow_add-slot c = omega (arith, few (goal.at.overflow_add-slot c).In_ok-p c.if-schemas-number.false)

pub offset_bounds-table-number : goal.offset_bounds-table-number
offset_bounds-table-number c = omega (arith, few (goal.at.offset_bounds-table-number c).In_ok-p c.if-schemas-number.false)

pub bounds-table-number : goal.bounds-table-number
bounds-table-number c = omega (arith, few (goal.at.bounds-table-number c).In_ok-p c.if-schemas-number.false)
