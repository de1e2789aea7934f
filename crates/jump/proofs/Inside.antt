-- A field that is found through any plan, made or not: it can be cut out of the caller's row, and starts where the plan fixes it.
-- Assumes nothing.
use Prim.Native.Nat.{ℕ, ◌+◌, ◌≤◌}
use mathlib.Core.Bool.{true}
use mathlib.Core.Path.{◌≡◌}
use lib.ListN.{length}
use Rattle.wire.specs.declared.error.Input.TheVariants as input
use Rattle.wire.specs.Read.{Bytes, ok, about, sized}
use Rattle.wire.proofs.Pieces.{bind_ok}
use Rattle.column.specs.declared.field.Field.{Field}
use Rattle.column.specs.Columns.{prefix_bytes}
use Rattle.walk.specs.Rows.{field}
use Rattle.plan.specs.declared.plan.Plan.{Plan}
use Rattle.plan.specs.Plans.{planned_column, planned_gap, no_stops}
use Rattle.jump.specs.Jumps.{planned_look_up, planned_row}
use Rattle.jump.proofs.AnyPlan.{look_landed, planned_inside, landed_placed}

module _ (p : Plan) (row : Bytes) (k : ℕ) (f : Field) (h : planned_row p row k ≡ ok (field f)) where
  -- the row has the allowed size
  row_looked : planned_look_up p row k ≡ ok (field f)
  unfolding planned_row
  row_looked = let (u, e, g) = bind_ok (about input.Row (sized row)) _ (field f) h in g

  -- The field lies in the row.
  pub row_inside : (f.start ≤ f.end) × (f.end ≤ length row)
  row_inside = planned_inside p row k f row_looked

  -- Where none of the plan's columns before it is a stop, it starts at the number that the plan holds, its own prefix added.
  pub row_placed : no_stops p k ≡ true → f.start ≡ planned_gap p k + prefix_bytes (planned_column p k)
  row_placed n = landed_placed p row k f n (look_landed p row k f row_looked)
