-- The slots have these columns.
-- Assumes nothing.
use Prim.Native.Nat.{ℕ}
use mathlib.Core.Path.{ap, ◌∙◌}
use mathlib.Core.List.{List}
use native.Mathlib.Omega.{arith}
use Rattle.column.specs.declared.column.Column.{Column}
use Rattle.column.specs.Packed.{packed_from}
use Rattle.column.proofs.PackedLaws.{packed_taken}
use Rattle.walk.specs.Rows.{opened}
use Rattle.row.proofs.marks.opened.Goals as goal

pub returns : goal.returns
returns c =
    c.open_row.ensures
    ∙ ap (λ (cs : List Column). opened cs c.args.row.now c.args.at)
    (packed_taken c.min.result c.pack_all-slots.result (omega arith) ∙ ap (λ (n : ℕ). packed_from n 0 c.pack_all-slots.result) c.min.ensures ∙ c.pack_all-slots.ensures)
