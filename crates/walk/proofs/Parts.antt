-- A field that is found can be cut out of the caller's rows.
-- Assumes nothing.
use Prim.Native.Nat.{ℕ, ◌≤◌}
use mathlib.Core.List.{List}
use mathlib.Core.Path.{◌≡◌}
use lib.ListN.{length}
use Rattle.wire.specs.declared.error.Input.TheVariants as input
use Rattle.wire.specs.Read.{Bytes, ok, about, sized}
use Rattle.wire.proofs.Pieces.{bind_ok}
use Rattle.column.specs.declared.column.Column.{Column}
use Rattle.column.specs.declared.field.Field.{Field}
use Rattle.walk.specs.Rows.{field, look_up_row}
use Rattle.walk.specs.Updates.{Current, updated, original, current, current_row}
use Rattle.walk.proofs.Found.{field_inside}
use Rattle.walk.proofs.CurrentValues.{updated_inside, original_inside}

module _ (cs : List Column) (row update : Bytes) (k : ℕ) where
  pub look_up_inside : (f : Field) → look_up_row cs row k ≡ ok (field f) → (f.start ≤ f.end) × (f.end ≤ length row)
  unfolding look_up_row
  look_up_inside f h = let (u, e, g) = bind_ok (about input.Row (sized row)) _ (field f) h in field_inside cs row k f g

  sized_current : (a : Current) → current_row cs row update k ≡ ok a → current cs row update k ≡ ok a
  unfolding current_row
  sized_current a h =
      let (u, e, g) = bind_ok (about input.Update (sized update)) _ a h in
      let (v, d, l) = bind_ok (about input.Row (sized row)) _ a g in
      l

  pub current_updated_inside : (f : Field) → current_row cs row update k ≡ ok (updated f) → (f.start ≤ f.end) × (f.end ≤ length update)
  current_updated_inside f h = updated_inside cs row update k f (sized_current (updated f) h)

  pub current_original_inside : (f : Field) → current_row cs row update k ≡ ok (original (field f)) → (f.start ≤ f.end) × (f.end ≤ length row)
  current_original_inside f h = original_inside cs row update k f (sized_current (original (field f)) h)
