-- By the column and its bit.
-- Assumes nothing.
use Prim.Native.Nat.{min, ◌<◌}
use mathlib.Core.Path.{sym, ap, ◌∙◌}
use native.Mathlib.Omega.{arith}
use Rattle.column.proofs.PackedLaws.{packed_taken}
use Rattle.walk.specs.Presence.{nullables}
use Rattle.walk.proofs.Arrays.{columns_few}
use Rattle.walk.proofs.Slots.{column_from, bit_counted}
use Rattle.row.proofs.marks.has_field.Goals as goal

pub returns : goal.returns
returns c =
    λ h.
    let n = columns_few c.args.columns (omega arith) in
    let l : c.args.i < min c.args.columns.count 64 = omega arith in
    let col = c.unpack_slot.ensures ∙ sym (column_from c.pack_all-slots.result (min c.args.columns.count 64) c.args.i l) in
    let k = c.count_nullable.ensures ∙ ap nullables (packed_taken c.args.i c.pack_all-slots.result (omega arith)) in
    let b = bit_counted c.pack_all-slots.result (min c.args.columns.count 64) c.args.i (omega arith) k in
    rw (← c.pack_all-slots.ensures, ← col, ← b) c.is_present.ensures
