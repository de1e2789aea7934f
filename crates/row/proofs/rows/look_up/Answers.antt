-- The slots have these columns.
-- Assumes nothing.
use Prim.Native.Nat.{ℕ}
use mathlib.Core.Path.{ap, ◌∙◌}
use mathlib.Core.List.{List}
use native.Mathlib.Omega.{arith}
use Rattle.column.specs.declared.column.Column.{Column}
use Rattle.column.specs.Packed.{packed_from}
use Rattle.column.proofs.PackedLaws.{packed_front}
use Rattle.walk.specs.Rows.{look_up_row}
use Rattle.row.proofs.rows.look_up.Goals as goal

pub returns : goal.returns
returns c =
    c.look_up_packed.ensures
    ∙ ap (λ (cs : List Column). look_up_row cs c.args.row.now c.args.k)
    (packed_front c.min.result c.pack_all-slots.result (omega arith) (omega arith) ∙ ap (λ (n : ℕ). packed_from n 0 c.pack_all-slots.result) c.min.ensures
    ∙ c.pack_all-slots.ensures)
