-- Columns that are taken out of a table of slots, each in one number.
-- Assumes nothing.
use Prim.Native.Nat.{ℕ, ◌+◌, ◌≤◌, min}
use mathlib.Core.Path.{◌≡◌, ◌∙◌}
use mathlib.Core.List.{List, map}
use native.Mathlib.Omega.{arith}
use lib.ListN.{length, take}
use Rattle.column.specs.Packed.{packed_from}
use Rattle.column.proofs.PackedLaws.{packed_front}
use Rattle.tree.specs.Schemas.{as_column}
use Rattle.tree.specs.Table.{entries_in}

pub packed_held : (slots packed : List ℕ) (first count : ℕ) → first + count ≤ 256 → count ≤ 64 → length packed ≡ 64 →
    packed_from (min count 64) 0 packed ≡ map as_column (entries_in (min first 256) (min count 64) slots) →
    packed_from (min (length (take count packed)) 64) 0 (take count packed) ≡ map as_column (entries_in first count slots)
packed_held slots packed first count inside few long e =
    let a : min first 256 ≡ first = omega (arith, inside) in
    let b : min count 64 ≡ count = omega (arith, few) in
    packed_front count packed few (omega (arith, few, long)) ∙ (rw (a, b) at e)
